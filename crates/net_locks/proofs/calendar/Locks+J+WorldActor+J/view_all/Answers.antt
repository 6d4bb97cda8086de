use Rattle.std.proofs.Common.{◌++◌, ◌<◌, List, length, take, ap, refl, sym, subst, ◌∙◌, arith}
use Rattle.net_base.specs.declared.actor.ActorName.{ActorName}
use Rattle.journal.specs.declared.tokens.Sight.{Sight}
use Rattle.journal.specs.Tokens.{HoldsAll}
use Rattle.net_locks.specs.Works.{noted_net}
use Rattle.net_locks.specs.Knowing.{AreMixed, all_touched}
use Rattle.net_locks.proofs.Knowledge.{all_touched_all, count_next, mixed_on, touched_next}
use Rattle.net_locks.proofs.calendar.Locks+J+WorldActor+J.view_all.Goals as goal

pub view_each-requires-clause-numbers : goal.view_each-requires-clause-numbers
view_each-requires-clause-numbers g c = subst (λ (q : Sight). HoldsAll g.J.Naming.run.roster q) (sym c.loop-standing.invariant.0) c.requires.numbers

pub loop-standing-preserved : goal.loop-standing-preserved
loop-standing-preserved g c =
    let w = g.J.Placing.world in
    let i = c.loop-standing.standing-index in
    let ss = c.args.standings.now in
    let s = c.standing-item.result in
    let inv = c.loop-standing.invariant in
    let lt : i < length ss = omega (arith, c.loop-standing-test.true) in
    let next = touched_next ss i s lt c.standing-item.is in (
      c.view_each.ensures.same ∙ inv.0,
      omega (arith, inv.1, count_next ss i s lt c.standing-item.is, c.view_each.ensures.room, ap (λ (l : List ActorName). length l) c.actors.ensures),
      λ old are. subst (λ (l : List ActorName). AreMixed w (noted_net w c.args.pass.now.seen).actors old l c.view_each.new.dues.list)
          (ap (λ (l : List ActorName). all_touched (take i ss) ++ l) c.actors.ensures ∙ sym next)
          (subst (λ (q : Sight). AreMixed w (noted_net w q.seen).actors old (all_touched (take i ss) ++ c.actors.result.now) c.view_each.new.dues.list) inv.0
          (c.view_each.ensures.dues old (all_touched (take i ss))
          (subst (λ (q : Sight). AreMixed w (noted_net w q.seen).actors old (all_touched (take i ss)) c.loop-standing.dues.list) (sym inv.0) (inv.2 old are)))),
    )

pub returns-clause-dues : goal.returns-clause-dues
returns-clause-dues g c = λ old are.
    let w = g.J.Placing.world in
    let l = c.loop-standing in
    mixed_on w old c.args.pass.now c.args.pass.now (all_touched (take l.standing-index c.args.standings.now)) (all_touched c.args.standings.now) l.dues.list
    (l.invariant.2 old are) refl (all_touched_all c.args.standings.now l.standing-index (omega (arith, c.loop-standing-test.false)))
