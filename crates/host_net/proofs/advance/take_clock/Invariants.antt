use Rattle.std.proofs.Common.{length, ◌-◌, ◌≡◌}
use Rattle.host_net.proofs.advance.take_clock.Given as goal

-- the groups so far have no clock, and all stand as they stood
abbrev pub invariant-loop-place : goal.invariant-loop-place
invariant-loop-place g l = l.groups ≡ l.initial.groups

abbrev pub decreases-loop-place : goal.decreases-loop-place
decreases-loop-place g l = length l.initial.groups - l.place
