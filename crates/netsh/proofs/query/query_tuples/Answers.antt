use Rattle.std.proofs.Common.{None}
use Rattle.netsh.proofs.CsAnswers.{lines_over, answers_found}
use Rattle.netsh.proofs.query.query_tuples.Goals as goal

pub returns : goal.returns
returns c =
    answers_found _ _ _
    (lines_over c.args.attr.now c.args.value.now None c.args.input.now _ _ c.in-Ok.ensures.good c.in-Ok.ensures.ok c.in_ok-lines.ensures)
    c.found.ensures
