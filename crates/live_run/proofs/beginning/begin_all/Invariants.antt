use Rattle.std.specs.Prelude.{◌≡◌}
use Rattle.live_run.specs.LiveRuns.{IsResting}
use Rattle.live_run.specs.LiveWorlds.{Begins}
use Rattle.live_run.proofs.beginning.begin_all.Given as goal

abbrev pub invariant-loop-script : goal.invariant-loop-script
invariant-loop-script l = IsResting l.world l.rest × (l.rest.places.grows ≡ l.initial.rest.places.grows) × Begins l.fn.first l.initial.rest.places.grows.items l.world × (l.rest.history ≡ l.initial.rest.history)

abbrev pub invariant-loop : goal.invariant-loop
invariant-loop l = IsResting l.world l.rest × (l.rest.places.grows ≡ l.initial.rest.places.grows) × Begins l.fn.first l.initial.rest.places.grows.items l.world × (l.rest.history ≡ l.initial.rest.history)
