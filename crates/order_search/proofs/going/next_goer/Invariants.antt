use Rattle.order_search.specs.Walks.{NobodyGoes}
use Rattle.order_search.proofs.going.next_goer.Given as goal

abbrev pub invariant-loop-caller : goal.invariant-loop-caller
invariant-loop-caller l = NobodyGoes l.world l.runner.history.entries l.fn.from l.caller
