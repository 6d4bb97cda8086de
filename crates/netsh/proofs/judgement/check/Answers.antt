use Rattle.std.proofs.lemmas.Result.{IfOk-weaker}
use Rattle.netsh.proofs.Judging.{judges, refuses}
use Rattle.netsh.proofs.judgement.check.Goals as goal

pub returns-in-Ok : goal.returns-in-Ok
returns-in-Ok c =
    IfOk-weaker _ _ _
    (λ answer checked. judges c.args.input.now answer c.requires c.in-Ok.read.world c.in-Ok.read.history c.in-Ok.read.told c.in-Ok.ensures.0 checked)
    c.judge_summary-answer.ensures

pub returns-in-Err : goal.returns-in-Err
returns-in-Err c =
    IfOk-weaker _ _ _
    (λ answer told. refuses c.args.input.now answer c.requires c.a_fault_is_one.ensures c.in-Err.error c.in-Err.ensures told)
    c.refuse.ensures
