use Rattle.std.proofs.Common.{◌≡◌, drop}
use Rattle.net_base.specs.Calm.{least}
use Rattle.net_locks.specs.Standings.{standing_moments}
use Rattle.net_locks.proofs.clock.least_awaited.Given as goal

abbrev pub invariant-loop-standing : goal.invariant-loop-standing
invariant-loop-standing l = least l.least (standing_moments (drop l.standing-index l.standings)) ≡ least l.last (standing_moments l.standings)
