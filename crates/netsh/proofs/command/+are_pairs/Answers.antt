use Rattle.std.proofs.Common.{sym, ◌∙◌}
use Rattle.std.proofs.lemmas.Bool.{false≢true}
use Rattle.netsh.proofs.Messages.{pairs_go_on}
use Rattle.netsh.proofs.command.+are_pairs.Goals.{then-is_digit, else-is_digit}
use Rattle.netsh.proofs.command.+are_pairs.Goals as goal

pub returns-then-is_digit-2 : goal.returns-then-is_digit-2
returns-then-is_digit-2 t c = elim c.if-is_digit.branch [
  | then-is_digit w ↦
      c.are_pairs.ensures
      ∙ pairs_go_on c.args.digits.now c.in-len2-up.len_at_least (sym c.is_digit.ensures ∙ w.if-is_digit.true) (sym w.is_digit-then-is_digit.ensures ∙ (sym w.value-is ∙ c.if-is_digit-2.true))
  | else-is_digit w ↦ absurd (false≢true (sym w.if-is_digit.false ∙ (sym w.value-is ∙ c.if-is_digit-2.true)))
]
