use Rattle.std.proofs.Common.{refl, sym, subst}
use Rattle.std.proofs.lemmas.Result.{IfOk-weaker}
use Rattle.net_base.specs.declared.world.World.{World}
use Rattle.live_run.specs.LiveRuns.{IsResting}
use Rattle.live_run.proofs.Rests.{added_rests, begins_where, rest_with}
use Rattle.live_run.proofs.beginning.append.Goals as goal

pub returns-clause-rests : goal.returns-clause-rests
returns-clause-rests c =
    let can = c.may_grow.ensures c.if-not-may_grow.false in
    let made =
    added_rests c.nets_are_alike.ensures c.finished_steps_stay.ensures.within c.next_events_stay.ensures.grown c.grown_is_world.ensures c.resting_runs_grow.ensures
    c.args.world c.args.script c.in-Some.step c.args.rest.now (rest_with c.args.rest.now c.args.rest.now.run c.take_next.new.self) c.requires can c.in-Some.ensures.step refl refl c.take_next.ensures.grows in
    IfOk-weaker c.grow.result _ _ (λ v is. subst (λ (u : World). IsResting u (rest_with c.args.rest.now c.args.rest.now.run c.take_next.new.self)) (sym is) made) c.grow.ensures

pub returns-clause-grown : goal.returns-clause-grown
returns-clause-grown c =
    let can = c.may_grow.ensures c.if-not-may_grow.false in
    IfOk-weaker c.grow.result _ _ (λ v is. begins_where c.args.world v c.args.script c.in-Some.step _ is can c.in-Some.ensures.step) c.grow.ensures
