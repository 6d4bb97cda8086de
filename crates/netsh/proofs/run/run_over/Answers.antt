use Rattle.std.proofs.lemmas.Result.{IfOk-weaker}
use Rattle.netsh.proofs.Given.{gives_bad_run, gives_run}
use Rattle.netsh.proofs.run.run_over.Goals as goal

pub returns-in-Err-Bad : goal.returns-in-Err-Bad
returns-in-Err-Bad g c =
    let told = rw c.in-Err-Bad.field-0-is at c.in-Err-Bad.ensures.bad in
    IfOk-weaker _ _ _ (λ answer is. gives_bad_run c.args.workers c.args.input.now _ _ answer c.requires.limit told is) c.bad_input.ensures

pub returns : goal.returns
returns g c =
    IfOk-weaker _ _ _ (λ answer is. gives_run c.args.workers c.args.input.now c.in-Ok.world answer c.requires.limit c.in-Ok.ensures.ok is)
    c.run_world-answer.ensures
