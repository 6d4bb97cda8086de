use Rattle.std.proofs.Common.{◌+◌, ◌<◌, ℕ, [], ◌∷◌, length, length-append, ap, sym, subst, ◌∙◌, arith}
use Rattle.host_net.specs.Groups.{callers_in, seats}
use Rattle.host_net.proofs.Seating.{AreEmpty, empty_more, none_dealt, none_follow}
use Rattle.host_net.proofs.players.Players.new.Goals as goal

pub loop-init : goal.loop-init
loop-init g c = (ap length c.in_ok-all.ensures.items, subst (λ gs. AreEmpty gs) (sym c.in_ok-all.ensures.items) (λ s there. absurd there))

pub loop-preserved : goal.loop-preserved
loop-preserved g c = (
  ap length c.in_ok-push.ensures.items ∙ (length-append c.loop.all.items (c.new.result ∷ []) ∙ ap (λ (n : ℕ). n + 1) c.loop.invariant.0),
  subst (λ gs. AreEmpty gs) (sym c.in_ok-push.ensures.items)
      (empty_more c.loop.all.items c.new.result c.loop.invariant.1 (ap (λ x. callers_in (seats x)) c.new.ensures)),
)

pub invariant_of-result : goal.invariant_of-result
invariant_of-result g c =
    let some : 0 < length c.loop.all.items = omega (arith, c.loop.invariant.0, c.loop-test.false, c.requires) in
    (none_dealt g.J.Placing.world c.loop.all.items some c.loop.invariant.1, none_follow c.args.deal.items c.loop.all.items c.loop.invariant.1)
