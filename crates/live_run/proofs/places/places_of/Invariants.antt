use Rattle.std.specs.Prelude.{◌≡◌, length}
use Rattle.live_run.specs.LiveWorlds.{ArePlaces}
use Rattle.live_run.proofs.places.places_of.Given as goal

abbrev pub invariant-loop-script : goal.invariant-loop-script
invariant-loop-script l = (length l.places.items ≡ l.script-index) × ArePlaces l.world l.places.items
