use Rattle.live_run.specs.Deadlines.{AreNone}
use Rattle.live_run.proofs.places.no_deadlines.Given as goal

abbrev pub invariant-loop : goal.invariant-loop
invariant-loop l = AreNone l.deadlines.items
