use Rattle.std.proofs.Common.{take}
use Rattle.host_net.specs.Advancing.{AddsToGroups}
use Rattle.host_net.specs.Groups.{visits}
use Rattle.host_net.proofs.advance.add_standings.Given as goal

-- the first players' callers stand so
abbrev pub invariant-loop-player : goal.invariant-loop-player
invariant-loop-player g l = AddsToGroups g.J.Placing.tasks g.J.Placing.world (visits (take l.player-index l.player-items)) l.fn.standings.items l.standings.items
