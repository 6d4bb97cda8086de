use Rattle.std.specs.Prelude.{◌<◌, length}
use Rattle.live_run.proofs.turns.first_ready.Given as goal

abbrev pub invariant-loop-caller : goal.invariant-loop-caller
invariant-loop-caller l = l.best < length l.runner.callers.items
