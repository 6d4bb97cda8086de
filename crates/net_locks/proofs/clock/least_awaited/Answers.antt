use Rattle.net_locks.proofs.Leasts.{awaited_all, awaited_next}
use Rattle.net_locks.proofs.clock.least_awaited.Goals as goal

pub loop-standing-preserved : goal.loop-standing-preserved
loop-standing-preserved c =
    awaited_next c.args.standings.now c.loop-standing.standing-index c.loop-standing.least c.earlier-least.result c.args.last c.standing-item.result
    c.loop-standing-test.true c.standing-item.is c.earlier-least.ensures c.loop-standing.invariant

pub returns : goal.returns
returns c = awaited_all c.args.standings.now c.loop-standing.standing-index c.loop-standing.least c.args.last c.loop-standing-test.false c.loop-standing.invariant
