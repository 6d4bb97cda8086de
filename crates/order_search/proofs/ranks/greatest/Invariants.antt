use Rattle.std.proofs.Common.{length}
use Rattle.order_search.specs.Walks.{IsGoer}
use Rattle.order_search.proofs.ranks.greatest.Given as goal

abbrev pub invariant-loop-caller : goal.invariant-loop-caller
invariant-loop-caller l = IsGoer l.world l.walk.runner.history.entries (length l.walk.runner.callers.items) l.best
