use Rattle.net_locks.proofs.Sighted.{looked_same, ready_seen}
use Rattle.net_locks.proofs.clock.Locks+J+WorldActor+J.is_ready.Goals as goal

pub returns-clause-ready : goal.returns-clause-ready
returns-clause-ready g c =
    let w = g.J.Placing.world in
    let p = c.args.pass.now in
    let p' = c.view-view.new.pass in
    let at = c.in-Some.lock.now.actor in
    let same = looked_same g.J.Naming.run.roster p c.view-view.result.front p' c.requires c.view-view.ensures.front in
    ready_seen w p p' same at c.args.actor c.in-Some.ensures.some c.args.now c.args.work.now c.view-view.result.ready c.view-view.ensures.ready
    (c.locks_keep_actors.ensures.ready w p'.seen at c.args.now c.args.work.now)
