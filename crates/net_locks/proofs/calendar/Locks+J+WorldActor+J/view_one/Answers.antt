use Rattle.std.proofs.Common.{◌≡◌, ◌++◌, ◌∷◌, [], refl, ap, sym, subst, ◌∙◌}
use Rattle.net_base.specs.declared.actor.ActorName.{ActorName}
use Rattle.net_base.specs.declared.actor.ActorName.TheVariants as name
use Rattle.net_base.specs.Actors.{has_actor}
use Rattle.net_base.specs.Duties as duties
use Rattle.net_locks.specs.Works.{noted_net}
use Rattle.net_locks.specs.Knowing.{AreMixed}
use Rattle.net_locks.proofs.Knowledge.{none_there, one_more, told_due}
use Rattle.net_locks.proofs.Sighted.{looked_same, said}
use Rattle.net_locks.proofs.calendar.Locks+J+WorldActor+J.view_one.Goals as goal

pub returns-in_default-lock_of-clause-dues : goal.returns-in_default-lock_of-clause-dues
returns-in_default-lock_of-clause-dues g c old as' are =
    none_there g.J.Placing.world (noted_net g.J.Placing.world c.args.pass.now.seen).actors old as' c.same_actors_are_equal.ensures c.args.actor
    (ap (has_actor g.J.Placing.world) c.in-Conv.is ∙ c.in_default-lock_of.ensures.none refl) (c.conversations_are_these.ensures.only g.J.Placing.world) c.args.dues.now.list are

pub returns-clause-dues : goal.returns-clause-dues
returns-clause-dues g c old as' are =
    let w = g.J.Placing.world in
    let p = c.args.pass.now in
    let p' = c.view-view.new.pass in
    let h = c.in-Conv.host in
    let k = c.in-Conv.proto in
    let n = c.in-Conv.slot in
    let at = c.in-Some.lock.now.actor in
    let same = looked_same g.J.Naming.run.roster p c.view-view.result.front p' c.requires.numbers c.view-view.ensures.front in
    let here : at ≡ name.Conv h k n = c.in-Some.ensures.some in
    let due = said w p p' same at (name.Conv h k n) here duties.due_of c.view-view.result.due _ c.view-view.ensures.due (c.locks_keep_actors.ensures.due w p'.seen at) in
    let generation = said w p p' same at (name.Conv h k n) here duties.generation_of c.view-view.result.generation _ c.view-view.ensures.generation
    (c.locks_keep_actors.ensures.generation w p'.seen at) in
    let now = (noted_net w p.seen).actors in
    let there = c.conversations_are_these.ensures.there w h k n (c.in-Some.ensures.has refl) in
    subst (λ (a : ActorName). AreMixed w now old (as' ++ a ∷ []) c.put.new.self.list) (sym c.in-Conv.is)
    (one_more w now old as' h k n c.args.dues.now.list c.put.new.self.list c.due_from.result (c.puts_keep_the_dues.ensures w h k n) there
    (c.due_from.ensures ∙ told_due now h k n c.view-view.result.generation c.view-view.result.due due generation) c.put.ensures.list are)
