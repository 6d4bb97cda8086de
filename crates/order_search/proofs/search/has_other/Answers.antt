use Rattle.std.proofs.Common.{arith}
use Rattle.order_search.proofs.Choosing.{alone_more}
use Rattle.order_search.proofs.search.has_other.Goals as goal

pub loop-caller-preserved : goal.loop-caller-preserved
loop-caller-preserved c =
    alone_more c.args.world.now c.args.walk.now.runner.history.entries c.loop-caller.caller c.args.last c.is_other.result c.loop-caller.invariant c.is_other.ensures
    c.if-is_other.false

pub returns : goal.returns
returns c = λ none k below.
    c.loop-caller.invariant k (omega (arith, below, c.loop-caller-test.false, c.len-caller-end.ensures, c.args.walk.now.runner.callers.ok.0))
