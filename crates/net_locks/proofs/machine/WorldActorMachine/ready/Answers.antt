use Rattle.std.proofs.Common.{◌∙◌}
use Rattle.net_actors.specs.Kept.{kept_state}
use Rattle.net_locks.proofs.Works.{ready_named}
use Rattle.net_locks.proofs.machine.WorldActorMachine.ready.Goals as goal

pub returns : goal.returns
returns g c =
    let w = g.P.Placing.world in
    let kept = c.self.inside.actor in
    c.ready.ensures w c.self.invariant ∙ ready_named w kept.name (kept_state kept) c.args.now c.args.work.now c.args.self.now c.self.view_is
