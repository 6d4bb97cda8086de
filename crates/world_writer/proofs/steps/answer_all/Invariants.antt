use Rattle.std.proofs.Common.{◌≡◌, ◌++◌}
use Rattle.std.specs.Prelude.{flat_map}
use Rattle.std.specs.List.{range_with_len}
use Rattle.world_writer.specs.Made.{answering}
use Rattle.world_writer.proofs.steps.answer_all.Given as goal

abbrev pub invariant-loop-before : goal.invariant-loop-before
invariant-loop-before l = l.steps ≡ l.initial.steps ++ flat_map answering (range_with_len 1 l.before)
