use Rattle.std.proofs.Common.{◌≡◌, false, take}
use Rattle.std.specs.List.{list_any}
use Rattle.net_locks.specs.Standings.{has_left}
use Rattle.net_locks.proofs.clock.is_through.Given as goal

-- none so far
abbrev pub invariant-loop-standing : goal.invariant-loop-standing
invariant-loop-standing l = list_any (has_left l.scripts) (take l.standing-index l.standings) ≡ false
