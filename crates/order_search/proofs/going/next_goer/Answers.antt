use Rattle.std.proofs.Common.{arith}
use Rattle.order_search.proofs.Goers.{nobody_more}
use Rattle.order_search.proofs.going.next_goer.Goals as goal

pub loop-caller-preserved : goal.loop-caller-preserved
loop-caller-preserved c =
    nobody_more c.args.world.now c.args.runner.now.history.entries c.args.from c.loop-caller.caller c.can_go.result c.loop-caller.invariant c.can_go.ensures
    c.if-can_go.false

pub returns-clause-none : goal.returns-clause-none
returns-clause-none c = λ k above below.
    c.loop-caller.invariant k above (omega (arith, below, c.loop-caller-test.false, c.len-caller-end.ensures, c.args.runner.now.callers.ok.0))
