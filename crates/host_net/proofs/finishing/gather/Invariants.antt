use Rattle.net_guests.specs.Visits.{Gathering}
use Rattle.host_net.proofs.finishing.gather.Given as goal

-- each guest is with the pass, or one of those that are left
abbrev pub invariant-loop-guest : goal.invariant-loop-guest
invariant-loop-guest g l = Gathering g.J.Placing.world g.J.Naming.run.roster l.fn.all l.fn.guests.items l.all l.guests.items

abbrev pub decreases-loop-guest : goal.decreases-loop-guest
decreases-loop-guest g l = goal.left-loop-guest g l
