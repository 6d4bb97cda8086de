use Rattle.order_search.specs.Walks.{IsWalk}
use Rattle.order_search.proofs.ranks.drawn.Given as goal

abbrev pub invariant-loop : goal.invariant-loop
invariant-loop l = IsWalk l.world l.walk
