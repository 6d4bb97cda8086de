use Rattle.std.proofs.Common.{◌≡◌, ◌++◌, [], ◌∷◌, length, length-append, reverse, ap, sym, ◌∙◌, arith}
use Rattle.std.proofs.lemmas.List.{append-nil, reverse-reverse, nil_from_length}
use Rattle.std.proofs.lemmas.Result.{err_from_is_err_and}
use Rattle.host_net.specs.Groups.{visits}
use Rattle.host_net.specs.Playing.{guests_of}
use Rattle.host_net.proofs.Parting.{goes_part, guests_push, plays_part}
use Rattle.host_net.proofs.Seating.{players_on}
use Rattle.host_net.proofs.players.add_player_parts.Goals as goal

pub loop-player-init : goal.loop-player-init
loop-player-init g c = (
  ap (λ l. guests_of c.args.parts.now.items ++ visits l) (ap reverse c.reverse.ensures.items ∙ reverse-reverse c.args.players.items),
  (λ are. are),
  λ are. are,
)

pub loop-player-smaller : goal.loop-player-smaller
loop-player-smaller g c = omega (arith, ap length c.in-Some.ensures.items ∙ length-append c.pop.new.self.items (c.in-Some.player ∷ []))

pub loop-player-preserved : goal.loop-player-preserved
loop-player-preserved g c =
    let parts = c.loop-player.parts.items in (
      players_on (guests_of parts) (guests_of c.push.new.self.items) _ c.loop-player.players.items c.pop.new.self.items c.in-Some.player
          c.loop-player.invariant.0 c.in-Some.ensures.items
          (guests_push parts c.push.new.self.items c.in_ok-part.part c.in_ok-push.ensures.items
          ∙ ap (λ x. guests_of parts ++ x.0 ∷ []) c.in_ok-part.ensures.same),
      (λ are.
          plays_part g.J.Placing.tasks g.J.Placing.world parts c.push.new.self.items c.in_ok-part.part c.in_ok-push.ensures.items
          (c.loop-player.invariant.1 are) c.in_ok-part.ensures.plays),
      λ are.
          goes_part g.T.WholeTask.Goes g.J.Placing.tasks g.J.Placing.world parts c.push.new.self.items c.in_ok-part.part c.in_ok-push.ensures.items
          (c.loop-player.invariant.2 are) c.in_ok-part.ensures.goes,
    )

pub returns-clause-same : goal.returns-clause-same
returns-clause-same g c =
    let none_left : c.loop-player.players.items ≡ [] =
    nil_from_length c.loop-player.players.items (omega (arith, c.in_default.ensures.cases.0, c.loop-player.players.ok.0)) in
    let parts = guests_of c.loop-player.parts.items in
    sym (append-nil parts) ∙ (ap (λ l. parts ++ visits (reverse l)) (sym none_left) ∙ c.loop-player.invariant.0)

pub returns-in_err-push-clause-same : goal.returns-in_err-push-clause-same
returns-in_err-push-clause-same g c =
    let p = err_from_is_err_and c.from_residual-in_err-push.result c.from_residual-in_err-push.ensures.1 in rw (p.1) tt
