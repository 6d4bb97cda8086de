use Rattle.std.proofs.Common.{◌≡◌, ◌++◌, length, map}
use Rattle.std.specs.Vec.Iter.{into_iter_items, into_iter_len}
use Rattle.plain_runner.specs.Resting.{resting_caller}
use Rattle.plain_runner.proofs.resting.resting_callers.Given as goal

-- the callers that rest, and those that are left
abbrev pub invariant-loop-caller : goal.invariant-loop-caller
invariant-loop-caller l = record {
  all : l.resting.items ++ map resting_caller (into_iter_items l.caller-iterator) ≡ map resting_caller l.fn.callers.items;
  long : into_iter_len l.caller-iterator ≡ length (into_iter_items l.caller-iterator);
}
