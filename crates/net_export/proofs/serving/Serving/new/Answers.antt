use Rattle.std.proofs.Common.{None, sym, subst}
use Rattle.net_export.specs.Serving.{IsServing}
use Rattle.session_answers.specs.Found.{found_lines}
use Rattle.session_script.specs.Seen.{seen_table}
use Rattle.net_export.proofs.Messages.{serving_begins}
use Rattle.net_export.proofs.serving.Serving.new.Goals as goal

pub invariant_of-result : goal.invariant_of-result
invariant_of-result c =
    subst (λ past. IsServing past None (seen_table c.shorter.result) (found_lines c.new.result)) (sym c.none.ensures)
    (serving_begins (seen_table c.shorter.result) (found_lines c.new.result) c.shorter.ensures c.new.ensures)
