use Rattle.std.specs.Vec.Iter.{into_iter_items, into_iter_len}
use Rattle.plain_runner.proofs.Rested.{Resuming}
use Rattle.plain_runner.proofs.resting.resumed_callers.Given as goal

abbrev pub invariant-loop-caller : goal.invariant-loop-caller
invariant-loop-caller l = Resuming l.world l.fn.resting.items l.callers.items (into_iter_items l.caller-iterator) (into_iter_len l.caller-iterator)
