use Rattle.std.proofs.Common.{◌++◌, ◌∷◌, ◌+◌, [], List, take, take_all, ap, refl, sym, subst, ◌∙◌, arith, append_assoc}
use Rattle.std.proofs.lemmas.List.{take_more}
use Rattle.net_base.specs.declared.actor.ActorName.{ActorName}
use Rattle.journal.specs.declared.tokens.Sight.{Sight}
use Rattle.journal.specs.Tokens.{HoldsAll}
use Rattle.net_locks.proofs.Knowledge.{mixed_on}
use Rattle.net_locks.proofs.calendar.Locks+J+WorldActor+J.view_each.Goals as goal

pub view_one-requires-clause-numbers : goal.view_one-requires-clause-numbers
view_one-requires-clause-numbers g c = subst (λ (q : Sight). HoldsAll g.J.Naming.run.roster q) (sym c.loop-actor.invariant.0) c.requires.numbers

pub loop-actor-preserved : goal.loop-actor-preserved
loop-actor-preserved g c =
    let w = g.J.Placing.world in
    let l = c.loop-actor in
    let i = l.actor-index in
    let actors = c.args.actors.now in
    let before = l.invariant.1 in
    let room = c.view_one.ensures.room in (
      c.view_one.ensures.same ∙ l.invariant.0,
      omega (arith, before, room),
      λ old as' are.
          mixed_on w old c.args.pass.now l.pass _ (as' ++ take (i + 1) actors) c.view_one.new.dues.list
          (c.view_one.ensures.dues old (as' ++ take i actors)
          (mixed_on w old l.pass c.args.pass.now (as' ++ take i actors) (as' ++ take i actors) l.dues.list (l.invariant.2 old as' are) (sym l.invariant.0) refl))
          l.invariant.0
          (append_assoc as' (take i actors) (_ ∷ []) ∙ ap (λ (l : List ActorName). as' ++ l) (sym (take_more actors i _ c.loop-actor-test.true))),
    )

pub returns-clause-dues : goal.returns-clause-dues
returns-clause-dues g c = λ old as' are.
    let w = g.J.Placing.world in
    let all = take_all c.loop-actor.actor-index c.args.actors.now (omega (arith, c.loop-actor-test.false)) in
    mixed_on w old c.args.pass.now c.args.pass.now (as' ++ take c.loop-actor.actor-index c.args.actors.now) (as' ++ c.args.actors.now) c.loop-actor.dues.list
    (c.loop-actor.invariant.2 old as' are) refl (ap (λ (l : List ActorName). as' ++ l) all)
