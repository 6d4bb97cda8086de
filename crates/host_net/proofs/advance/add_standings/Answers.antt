use Rattle.std.proofs.Common.{ap, sym, ◌∙◌, arith}
use Rattle.host_net.proofs.Standings.{adds_clock, adds_player}
use Rattle.host_net.specs.Groups.{Grouped}
use Rattle.host_net.proofs.advance.add_standings.Goals as goal

pub loop-player-preserved : goal.loop-player-preserved
loop-player-preserved g c =
    adds_player g.J.Placing.tasks g.J.Placing.world c.deref-player-items.result.now c.loop-player.player-index c.player-item.result c.args.standings.now.items
    c.loop-player.standings.items c.push.new.self.items c.in_ok-standing_of.field-0 (omega (arith, c.loop-player-test.true)) c.player-item.is
    c.loop-player.invariant c.in_ok-standing_of.ensures c.in_ok-push.ensures.items

pub returns-in_ok-push-2 : goal.returns-in_ok-push-2
returns-in_ok-push-2 g c =
    adds_clock g.J.Placing.tasks g.J.Placing.world c.args.group.now c.deref-player-items.result.now c.loop-player.player-index c.in-Some.player c.args.standings.now.items
    c.loop-player.standings.items c.push-in-Some.new.self.items c.in_ok-standing_of-2.field-0 (omega (arith, c.loop-player-test.false))
    (c.deref-player-items.ensures.value ∙ ap (λ (x : Grouped g.row.T.Denot). x.players) c.group.view_is)
    (ap (λ (x : Grouped g.row.T.Denot). x.clock) (sym c.group.view_is) ∙ c.in-Some.is) c.loop-player.invariant c.in_ok-standing_of-2.ensures
    c.in_ok-push-2.ensures.items
