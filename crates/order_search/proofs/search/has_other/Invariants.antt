use Rattle.order_search.specs.Walks.{GoesAlone}
use Rattle.order_search.proofs.search.has_other.Given as goal

abbrev pub invariant-loop-caller : goal.invariant-loop-caller
invariant-loop-caller l = GoesAlone l.world l.walk.runner.history.entries l.caller l.last
