use Rattle.netsh.proofs.CsAnswers.{found_over, answers_found, answers_refused}
use Rattle.netsh.proofs.resolving.cs.Goals as goal

pub returns-in-Ok-indexed : goal.returns-in-Ok-indexed
returns-in-Ok-indexed c =
    answers_found _ _ _
    (found_over c.args.sys.now c.args.query.now c.args.input.now _ _ c.in-Ok.ensures.good c.in-Ok.ensures.ok c.in-Ok-indexed.ensures.ok)
    c.listed.ensures

pub returns-in-Err : goal.returns-in-Err
returns-in-Err c =
    answers_refused _ c.args.sys.now c.args.query.now c.args.input.now _ _ c.in-Ok.ensures.good c.in-Ok.ensures.ok c.in-Err.ensures.err
    c.refusal.ensures.told c.refusal.ensures.value
