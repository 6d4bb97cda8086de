use Rattle.std.proofs.Common.{◌≡◌, ◌+◌, ◌-◌, drop, length}
use Rattle.duties.specs.Places.{before}
use Rattle.duties.proofs.moments.before.Given as goal

-- those so far, and those that are left
abbrev pub invariant-loop-count : goal.invariant-loop-count
invariant-loop-count l = l.count + before l.place (drop l.count l.dues) ≡ before l.place l.dues

abbrev pub decreases-loop-count : goal.decreases-loop-count
decreases-loop-count l = length l.dues - l.count
