use Rattle.std.proofs.Common.{refl}
use Rattle.std.proofs.lemmas.Option.{slice_get_past}
use Rattle.live_run.specs.Currents.{Here, Outside}
use Rattle.live_run.proofs.PlaceLists.{got}
use Rattle.live_run.proofs.currents.replace.Goals as goal

pub returns-in-Some : goal.returns-in-Some
returns-in-Some c =
    Here c.in-Some.current.now c.replace_in.new.current (got c.args.currents.now.items c.args.script c.in-Some.current.now c.in-Some.ensures.item.3.0 c.in-Some.ensures.value) refl
    c.replace_in.ensures

pub returns-in_default : goal.returns-in_default
returns-in_default c = Outside (slice_get_past c.args.currents.now.items c.args.script c.in_default.ensures.item.3) refl
