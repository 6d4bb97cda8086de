use Rattle.std.proofs.Common.{ap, ◌∙◌, arith}
use Rattle.host_net.proofs.Standings.{all_standings, standings_group}
use Rattle.host_net.specs.Groups.{Grouping}
use Rattle.host_net.proofs.advance.standings_of.Goals as goal

pub loop-group-preserved : goal.loop-group-preserved
loop-group-preserved g c =
    standings_group g.J.Placing.tasks g.J.Placing.world c.deref-group-items.result.now c.loop-group.group-index c.group-item.result c.loop-group.standings.items
    c.add_standings.new.standings.items (omega (arith, c.loop-group-test.true)) c.group-item.is c.loop-group.invariant c.in_ok-add_standings.ensures

pub returns : goal.returns
returns g c =
    all_standings g.J.Placing.tasks g.J.Placing.world c.deref-group-items.result.now c.loop-group.group-index c.args.players.now.groups c.loop-group.standings.items
    (omega (arith, c.loop-group-test.false))
    (c.deref-group-items.ensures.value ∙ ap (λ (x : Grouping g.row.T.Denot). x.groups) c.players.view_is) c.loop-group.invariant
