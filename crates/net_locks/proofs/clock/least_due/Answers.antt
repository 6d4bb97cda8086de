use Rattle.net_locks.proofs.Leasts.{due_all, due_next}
use Rattle.net_locks.proofs.clock.least_due.Goals as goal

pub loop-due-preserved : goal.loop-due-preserved
loop-due-preserved c = due_next c.args.dues.now c.loop-due.due-index c.loop-due.least c.min-least.result c.args.last _ c.loop-due-test.true
    c.min-least.ensures c.loop-due.invariant

pub returns : goal.returns
returns c = due_all c.args.dues.now c.loop-due.due-index c.loop-due.least c.args.last c.loop-due-test.false c.loop-due.invariant
