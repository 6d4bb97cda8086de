use Rattle.std.proofs.Common.{refl}
use Rattle.std.proofs.lemmas.Option.{slice_get_past}
use Rattle.live_run.specs.Currents.{Here, Outside}
use Rattle.live_run.proofs.Hearing.{on_ok}
use Rattle.live_run.proofs.PlaceLists.{got}
use Rattle.live_run.proofs.currents.note.Goals as goal

pub returns-in-Some : goal.returns-in-Some
returns-in-Some c =
    let there = got c.args.currents.now.items c.args.caller c.in-Some.current.now c.in-Some.ensures.item.3.0 c.in-Some.ensures.value in
    on_ok c.note_in.result (λ noted. Here c.in-Some.current.now c.note_in.new.current there refl noted) c.note_in.ensures

pub returns-in-None : goal.returns-in-None
returns-in-None c = Outside (slice_get_past c.args.currents.now.items c.args.caller c.in-None.ensures.item.3) refl
