use Rattle.std.proofs.lemmas.Result.{IfOk-weaker}
use Rattle.netsh.proofs.Given.{gives_bad_export, gives_export}
use Rattle.netsh.proofs.exporting.export_over.Goals as goal

pub returns-in-Ok : goal.returns-in-Ok
returns-in-Ok g c =
    IfOk-weaker _ _ _ (λ answer is. gives_export c.texts_of_sessions_say_one.ensures c.args.workers c.args.input.now c.in-Ok.told answer c.requires.limit c.in-Ok.ensures.ok is)
    c.export_told.ensures

pub returns-in-Err-Bad : goal.returns-in-Err-Bad
returns-in-Err-Bad g c =
    let told = rw c.in-Err-Bad.field-0-is at c.in-Err-Bad.ensures.bad in
    IfOk-weaker _ _ _ (λ answer is. gives_bad_export c.texts_of_sessions_say_one.ensures c.args.workers c.args.input.now _ _ answer c.requires.limit told is) c.bad_input.ensures
