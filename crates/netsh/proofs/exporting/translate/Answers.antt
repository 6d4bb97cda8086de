use Rattle.std.proofs.lemmas.Result.{IfOk-weaker}
use Rattle.netsh.proofs.Given.{gives_bad_translation, gives_translation}
use Rattle.netsh.proofs.exporting.translate.Goals as goal

pub returns-in-Ok : goal.returns-in-Ok
returns-in-Ok c =
    IfOk-weaker _ _ _ (λ answer is. gives_translation c.texts_of_sessions_say_one.ensures c.args.input.now c.in-Ok.told answer c.requires c.in-Ok.ensures.ok is) c.translate_told.ensures

pub returns-in-Err-Bad : goal.returns-in-Err-Bad
returns-in-Err-Bad c =
    let told = rw c.in-Err-Bad.field-0-is at c.in-Err-Bad.ensures.bad in
    IfOk-weaker _ _ _ (λ answer is. gives_bad_translation c.texts_of_sessions_say_one.ensures c.args.input.now _ _ answer c.requires told is) c.bad_input.ensures
