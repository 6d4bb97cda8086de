use Rattle.net_actors.specs.AtDesk.{desk_at, host_at_desk}
use Rattle.net_actors.proofs.ByKind.{leaves_but, told_steps}
use Rattle.net_actors.proofs.desk.Desk.answer.Goals as goal

pub returns-in_default-clause-ok : goal.returns-in_default-clause-ok
returns-in_default-clause-ok c =
    let d = c.args.self.now in
    told_steps c.tell.result d.dbs (host_at_desk d) c.args.event.now c.args.now (desk_at d) (leaves_but c.args.event.now c.in_default.not-Refresh) c.tell.ensures.ok
