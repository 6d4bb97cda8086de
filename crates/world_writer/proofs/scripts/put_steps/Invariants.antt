use Rattle.std.proofs.Common.{◌≡◌, ◌++◌, drop, map}
use Rattle.world_text.specs.WorldSpelling.{laid, line_of_step}
use Rattle.world_writer.proofs.scripts.put_steps.Given as goal

abbrev pub invariant-loop-step : goal.invariant-loop-step
invariant-loop-step l = l.initial.out ++ laid (map line_of_step l.steps) ≡ l.out ++ laid (map line_of_step (drop l.step-index l.steps))
