use Rattle.std.proofs.Common.{◌≡◌, [], ap, sym, subst, ◌∙◌}
use Rattle.net_base.specs.Callers.{IsCourier, caller_of}
use Rattle.host_net.specs.declared.player.Played.{Played}
use Rattle.host_net.specs.declared.player.Role.{Role}
use Rattle.host_net.specs.Playing.{VisitHasRole, PlaysOn}
use Rattle.host_net.proofs.Counting.{counts_courier}
use Rattle.host_net.proofs.Keeping.{playing, take_keeps, take_plays}
use Rattle.host_net.proofs.player.Net+J+WorldActor+J.play_courier.Goals as goal

pub returns-clause-turn : goal.returns-clause-turn
returns-clause-turn g c =
    let w = g.J.Placing.world in
    let p = c.player.inside in
    let m = c.args.medium in
    let courier : caller_of w p.guest.caller ≡ IsCourier m =
    subst (λ (r : Role). VisitHasRole w p.guest.caller r) (ap (λ x. x.role) c.player.view_is ∙ c.requires.courier) c.player.invariant.0.role_is in
    let free : p.guest.owed ≡ [] = ap (λ x. x.visit.owed) c.player.view_is ∙ c.requires.free in
    let new = playing c.courier_turn.new.guest p.role p.task p.lost p.counts in
    subst (λ x. PlaysOn g.J.Placing.tasks w x c.played_of.result new) c.player.view_is
    (subst (λ (r : Played). PlaysOn g.J.Placing.tasks w (playing p.guest p.role p.task p.lost p.counts) r new) (sym c.played_of.ensures)
    (take_plays g.J.Placing.tasks w m p.guest c.courier_turn.new.guest c.courier_turn.ensures.same c.courier_turn.ensures.names courier free c.courier_turn.result
    (c.courier_turn.ensures.free free) p.role p.task p.lost p.counts))

pub invariant_of-player : goal.invariant_of-player
invariant_of-player g c =
    let w = g.J.Placing.world in
    let p = c.player.inside in
    let m = c.args.medium in
    let courier : caller_of w p.guest.caller ≡ IsCourier m =
    subst (λ (r : Role). VisitHasRole w p.guest.caller r) (ap (λ x. x.role) c.player.view_is ∙ c.requires.courier) c.player.invariant.0.role_is in
    let free : p.guest.owed ≡ [] = ap (λ x. x.visit.owed) c.player.view_is ∙ c.requires.free in
    let same = c.courier_turn.ensures.same in (
      take_keeps g.J.Placing.tasks w m p.guest c.courier_turn.new.guest same c.courier_turn.ensures.names courier free c.courier_turn.result
          (c.courier_turn.ensures.free free) g.T.WholeTask.Goes p.role p.task p.lost c.player.invariant.0,
      λ counts. counts_courier g.T.WholeTask.Plays w m c.courier_turn.new.guest p.task p.lost p.before (ap (caller_of w) same.caller ∙ courier),
    )
