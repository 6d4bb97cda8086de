use Rattle.std.proofs.Common.{length}
use Rattle.medium.specs.OnFates.{AreInOrder, FindsAlike}
use Rattle.medium.proofs.fates.drop_past.Given as goal

abbrev pub invariant-loop-lines : goal.invariant-loop-lines
invariant-loop-lines l = AreInOrder l.lines.items × FindsAlike l.laid l.initial.lines.items l.lines.items

abbrev pub decreases-loop-lines : goal.decreases-loop-lines
decreases-loop-lines l = length l.lines.items
