use Rattle.std.proofs.Common.{◌≡◌, ◌++◌, List, [], ◌∷◌, length, length-append, reverse, ap, sym, subst, ◌∙◌, arith}
use Rattle.std.proofs.lemmas.List.{append-nil, reverse-reverse, nil_from_length}
use Rattle.host_net.specs.Groups.{visits}
use Rattle.host_net.specs.Playing.{AreVisitsPlayed}
use Rattle.net_guests.specs.Visits.{Visit}
use Rattle.host_net.proofs.Seating.{players_on, plays_more}
use Rattle.host_net.proofs.players.add_players.Goals as goal

pub loop-player-init : goal.loop-player-init
loop-player-init g c = (
  ap (λ l. c.args.guests.now.items ++ visits l) (ap reverse c.reverse.ensures.items ∙ reverse-reverse c.args.players.items),
  λ are. are,
)

pub loop-player-smaller : goal.loop-player-smaller
loop-player-smaller g c = omega (arith, ap length c.in-Some.ensures.items ∙ length-append c.pop.new.self.items (c.in-Some.player ∷ []))

pub loop-player-preserved : goal.loop-player-preserved
loop-player-preserved g c = (
  players_on c.loop-player.guests.items c.push.new.self.items _ c.loop-player.players.items c.pop.new.self.items c.in-Some.player c.loop-player.invariant.0
      c.in-Some.ensures.items (c.in_ok-push.ensures.items ∙ ap (λ (v : Visit). c.loop-player.guests.items ++ v ∷ []) c.into_guest.ensures.same),
  λ are.
      subst (λ (l : List Visit). AreVisitsPlayed g.J.Placing.tasks g.J.Placing.world l) (sym c.in_ok-push.ensures.items)
      (plays_more g.J.Placing.tasks g.J.Placing.world c.loop-player.guests.items c.into_guest.result (c.loop-player.invariant.1 are) c.into_guest.ensures.plays),
)

pub returns-clause-same : goal.returns-clause-same
returns-clause-same g c =
    let none_left : c.loop-player.players.items ≡ [] =
    nil_from_length c.loop-player.players.items (omega (arith, c.in_default.ensures.cases.0, c.loop-player.players.ok.0)) in
    sym (append-nil c.loop-player.guests.items) ∙ (ap (λ l. c.loop-player.guests.items ++ visits (reverse l)) (sym none_left) ∙ c.loop-player.invariant.0)
