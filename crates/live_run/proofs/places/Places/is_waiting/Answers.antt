use Rattle.std.proofs.Common.{◌≡◌, ◌∙◌, List, Option, Some, slice_get, ap, sym}
use Rattle.live_answers.specs.declared.current.Current.{Current}
use Rattle.live_run.proofs.PlaceLists.{got}
use Rattle.live_run.proofs.places.Places.is_waiting.Goals as goal

pub returns-in-Some-Some : goal.returns-in-Some-Some
returns-in-Some-Some c truth =
    let there = ap (λ (cs : List (Option Current)). slice_get cs c.args.script) (sym c.deref.ensures.value)
    ∙ got c.deref.result.now c.args.script c.in-Some-Some.field-0.now c.in-Some-Some.ensures.lookup.3.0 c.in-Some-Some.ensures.lookup.1 in
    record { step = c.in-Some-Some.current; is = there ∙ ap Some c.in-Some-Some.field-0-is; none = c.is_waiting.ensures truth }
