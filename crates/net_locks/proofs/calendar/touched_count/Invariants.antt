use Rattle.std.proofs.Common.{◌≡◌, ◌+◌, drop}
use Rattle.net_locks.specs.Knowing.{touched_count}
use Rattle.net_locks.proofs.calendar.touched_count.Given as goal

-- those so far, and those of the callers that are left
abbrev pub invariant-loop-standing : goal.invariant-loop-standing
invariant-loop-standing l = l.count + touched_count (drop l.standing-index l.standings) ≡ touched_count l.standings
