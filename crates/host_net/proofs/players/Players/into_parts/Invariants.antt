use Rattle.std.proofs.Common.{◌≡◌, ◌++◌, reverse, length}
use Rattle.host_net.specs.Groups.{all_members, visits}
use Rattle.host_net.specs.Playing.{AreGoing, AreVisitsPlayed, guests_of}
use Rattle.host_net.proofs.players.Players.into_parts.Given as goal

-- the parts so far are those of the first groups
abbrev pub invariant-loop-group : goal.invariant-loop-group
invariant-loop-group g l =
    (guests_of l.parts.items ++ visits (all_members (reverse l.groups.items)) ≡ visits (all_members l.fn.self.groups))
    × AreVisitsPlayed g.J.Placing.tasks g.J.Placing.world (guests_of l.parts.items)
    × AreGoing g.T.WholeTask.Goes g.J.Placing.tasks g.J.Placing.world l.parts.items

abbrev pub decreases-loop-group : goal.decreases-loop-group
decreases-loop-group g l = length l.groups.items
