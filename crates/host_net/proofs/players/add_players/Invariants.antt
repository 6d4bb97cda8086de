use Rattle.std.proofs.Common.{◌≡◌, ◌++◌, reverse, length}
use Rattle.host_net.specs.Groups.{visits}
use Rattle.host_net.specs.Playing.{AreVisitsPlayed}
use Rattle.host_net.proofs.players.add_players.Given as goal

-- the guests so far are those of the first players
abbrev pub invariant-loop-player : goal.invariant-loop-player
invariant-loop-player g l =
    (l.guests.items ++ visits (reverse l.players.items) ≡ l.fn.guests.items ++ visits l.fn.players.items)
    × (AreVisitsPlayed g.J.Placing.tasks g.J.Placing.world l.fn.guests.items → AreVisitsPlayed g.J.Placing.tasks g.J.Placing.world l.guests.items)

abbrev pub decreases-loop-player : goal.decreases-loop-player
decreases-loop-player g l = length l.players.items
