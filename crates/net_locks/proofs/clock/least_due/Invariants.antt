use Rattle.std.proofs.Common.{◌≡◌, drop}
use Rattle.net_base.specs.Calm.{least}
use Rattle.net_locks.specs.Standings.{moments_of_dues}
use Rattle.net_locks.proofs.clock.least_due.Given as goal

abbrev pub invariant-loop-due : goal.invariant-loop-due
invariant-loop-due l = least l.least (moments_of_dues (drop l.due-index l.dues)) ≡ least l.last (moments_of_dues l.dues)
