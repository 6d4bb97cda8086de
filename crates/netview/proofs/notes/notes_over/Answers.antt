use Rattle.std.proofs.lemmas.Result.{IfOk-weaker}
use Rattle.netview.proofs.Shown.{answers_bad_bundle, answers_notes}
use Rattle.netview.proofs.notes.notes_over.Goals as goal

pub returns-in-Ok : goal.returns-in-Ok
returns-in-Ok c = answers_notes c.args.input.now _ _ c.requires c.in-Ok.ensures.good c.whole.ensures

pub returns-in-Err-Bad : goal.returns-in-Err-Bad
returns-in-Err-Bad c =
    let told = rw c.in-Err-Bad.field-0-is at c.in-Err-Bad.ensures.bad in
    IfOk-weaker _ _ _ (λ answer is. answers_bad_bundle c.args.input.now _ _ answer c.requires told is) c.bad_input.ensures
