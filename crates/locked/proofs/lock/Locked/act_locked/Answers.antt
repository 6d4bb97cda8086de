use Rattle.std.proofs.Common.{sym, subst, ◌∙◌}
use Rattle.net_base.specs.declared.actor.ActorName.{ActorName}
use Rattle.locked.specs.Acts.{Acted}
use Rattle.locked.proofs.lock.Locked.act_locked.Goals as goal
use Rattle.net_base.proofs.Shared.{same_actor_is}

pub returns : goal.returns
returns g c =
    let a = c.args.asked in
    subst (λ (n : ActorName). Acted g.M.Machine.begin g.M.Machine.answer g.J.Naming.run.roster n a.caller a.now a.work.now a.cites c.args.pass.now c.act.result c.act.new.pass)
    (sym c.actor.ensures ∙ same_actor_is c.actor.result c.args.self.now.actor (sym c.same_actor.ensures ∙ c.if-not-same_actor.false))
    c.act.ensures.acted
