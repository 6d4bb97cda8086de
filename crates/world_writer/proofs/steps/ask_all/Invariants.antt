use Rattle.std.proofs.Common.{◌≡◌, ◌++◌}
use Rattle.std.specs.Prelude.{flat_map}
use Rattle.std.specs.List.{range_with_len}
use Rattle.world_writer.specs.Made.{message_steps}
use Rattle.world_writer.proofs.steps.ask_all.Given as goal

abbrev pub invariant-loop-before : goal.invariant-loop-before
invariant-loop-before l = l.steps ≡ l.initial.steps ++ flat_map message_steps (range_with_len 1 l.before)
