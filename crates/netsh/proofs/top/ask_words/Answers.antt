use Rattle.std.proofs.Common.{Some, ap, sym, ◌∙◌}
use Rattle.netsh.specs.Commands.{command_read}
use Rattle.netsh.specs.declared.command.Command.{Command}
use Rattle.net_model.proofs.Shared.{ends_told}
use Rattle.netsh.specs.Built.{asking}
use Rattle.netsh.proofs.Endings.{words_answered}
use Rattle.netsh.proofs.top.ask_words.Goals as goal

pub returns-in-Some-Question-clause-answered : goal.returns-in-Some-Question-clause-answered
returns-in-Some-Question-clause-answered g c status same =
    words_answered c.in-Some-Question.question _ status _ _ _
    (ap (λ (k : Command). Some (command_read k)) (sym c.in-Some-Question.field-0-is) ∙ c.in-Some-Question.ensures) same
    (ends_told _ asking _ _ _ _ _ c.read_and_answer.ensures.answered c.tell_answer.ensures)
