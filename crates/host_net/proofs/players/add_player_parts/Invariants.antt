use Rattle.std.proofs.Common.{◌≡◌, ◌++◌, reverse, length}
use Rattle.host_net.specs.Groups.{visits}
use Rattle.host_net.specs.Playing.{AreGoing, AreVisitsPlayed, guests_of}
use Rattle.host_net.proofs.players.add_player_parts.Given as goal

-- the parts so far are those of the first players
abbrev pub invariant-loop-player : goal.invariant-loop-player
invariant-loop-player g l =
    (guests_of l.parts.items ++ visits (reverse l.players.items) ≡ guests_of l.fn.parts.items ++ visits l.fn.players.items)
    × (AreVisitsPlayed g.J.Placing.tasks g.J.Placing.world (guests_of l.fn.parts.items) → AreVisitsPlayed g.J.Placing.tasks g.J.Placing.world (guests_of l.parts.items))
    × (AreGoing g.T.WholeTask.Goes g.J.Placing.tasks g.J.Placing.world l.fn.parts.items
    → AreGoing g.T.WholeTask.Goes g.J.Placing.tasks g.J.Placing.world l.parts.items)

abbrev pub decreases-loop-player : goal.decreases-loop-player
decreases-loop-player g l = length l.players.items
