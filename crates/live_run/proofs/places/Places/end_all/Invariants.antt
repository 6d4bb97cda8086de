use Rattle.std.specs.Prelude.{◌≡◌}
use Rattle.live_run.specs.LiveWorlds.{Narrows}
use Rattle.live_run.proofs.places.Places.end_all.Given as goal

abbrev pub invariant-loop-script : goal.invariant-loop-script
invariant-loop-script l = Narrows l.initial.self.grows.items l.self.grows.items × (l.self.deadlines ≡ l.initial.self.deadlines) × (l.self.currents ≡ l.initial.self.currents)
