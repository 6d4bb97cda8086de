use Rattle.std.proofs.Common.{◌+◌}
use Rattle.ndb_index.specs.Chained.{width_for, alike}
use Rattle.ndb_index.proofs.ByPair.{Walk}
use Rattle.ndb_index.proofs.pairs.spots_of.Given as goal

abbrev pub invariant-loop-left : goal.invariant-loop-left
invariant-loop-left g l = Walk l.tuples (width_for l.tuples) l.left l.attr l.value l.spots.items l.steps (l.initial.steps + alike l.attr l.value l.tuples)

abbrev pub decreases-loop-left : goal.decreases-loop-left
decreases-loop-left g l = l.left
