use Rattle.std.proofs.Common.{◌≡◌, ◌∙◌, Option, Some, Vec, Global, ap, refl, sym, subst}
use Rattle.std.specs.Prelude.{slice_set}
use Rattle.live_answers.specs.declared.current.Current.{Current}
use Rattle.live_run.proofs.Hearing.{supplies_begun}
use Rattle.std.proofs.lemmas.Result.{IfOk-weaker}
use Rattle.net_base.specs.declared.world.World.{World}
use Rattle.live_run.specs.LiveRuns.{IsRest}
use Rattle.live_run.proofs.Rests.{begins_where, begun_rest, rest_with}
use Rattle.live_run.proofs.beginning.begin.Goals as goal

pub returns-clause-rests : goal.returns-clause-rests
returns-clause-rests c =
    let w = c.args.world in
    let old = c.args.rest.now in
    let s = c.start_of-start.result.step in
    let can = c.may_grow.ensures c.if-not-may_grow.false in
    let made =
    begun_rest c.nets_are_alike.ensures c.finished_steps_stay.ensures.within c.next_events_stay.ensures.grown c.grown_is_world.ensures c.resting_runs_grow.ensures
    w c.args.script s old (rest_with old old.run c.set_deadline.new.self) c.take_next.new.self c.begin.new.self c.requires.rest c.requires.free can c.start_of-start.ensures.step
    (record {
      deadline = c.start_of-start.result.limit;
      took = c.take_next.ensures.grows;
      took_late = c.take_next.ensures.deadlines;
      narrows = c.begin.ensures.narrows;
      begun_late = c.begin.ensures.deadlines;
      grows = c.set_deadline.ensures.grows;
      set = c.set_deadline.ensures.deadlines;
    }) refl refl refl in
    IfOk-weaker c.grow.result _ _ (λ v is. subst (λ (u : World). IsRest u (rest_with old old.run c.set_deadline.new.self)) (sym is) made) c.grow.ensures

pub returns-clause-grown : goal.returns-clause-grown
returns-clause-grown c =
    let can = c.may_grow.ensures c.if-not-may_grow.false in
    IfOk-weaker c.grow.result _ _ (λ v is. begins_where c.args.world v c.args.script c.start_of-start.result.step _ is can c.start_of-start.ensures.step) c.grow.ensures

pub returns-clause-heard : goal.returns-clause-heard
returns-clause-heard c =
    let w = c.args.world in
    let old = c.args.rest.now in
    let start = c.start_of-start.result in
    let took = c.take_next.ensures.currents in
    let set : c.set_deadline.new.self.currents.items ≡ slice_set old.places.currents.items c.args.script (Some start.current) =
    ap (λ (vs : Vec (Option Current) Global). vs.items) c.set_deadline.ensures.currents
    ∙ (c.begin.ensures.currents ∙ ap (λ (vs : Vec (Option Current) Global). slice_set vs.items c.args.script (Some start.current)) took) in
    IfOk-weaker c.grow.result _ _ (λ v is s.
    supplies_begun old.places.grows.items w v old (rest_with old old.run c.set_deadline.new.self) s c.args.script start.step start.current (c.may_grow.ensures c.if-not-may_grow.false) is refl
    (c.can_begin.ensures c.if-not-can_begin.false) set c.start_of-start.ensures.stamps (c.start_of-start.ensures.number ∙ c.steps_of.ensures)) c.grow.ensures
