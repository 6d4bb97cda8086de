use Rattle.net_locks.specs.Rosters.{AreNumbered}
use Rattle.net_locks.proofs.opening.names_of.Given as goal

abbrev pub invariant-loop-number : goal.invariant-loop-number
invariant-loop-number l = AreNumbered l.world l.number l.names.items
