use Rattle.std.proofs.Common.{◌≡◌, ◌++◌, reverse, length}
use Rattle.host_net.specs.Groups.{all_members, visits}
use Rattle.host_net.specs.Playing.{AreVisitsPlayed}
use Rattle.host_net.proofs.players.Players.into_guests.Given as goal

-- the guests so far are those of the first groups
abbrev pub invariant-loop-group : goal.invariant-loop-group
invariant-loop-group g l =
    (l.guests.items ++ visits (all_members (reverse l.groups.items)) ≡ visits (all_members l.fn.self.groups)) × AreVisitsPlayed g.J.Placing.tasks g.J.Placing.world l.guests.items

abbrev pub decreases-loop-group : goal.decreases-loop-group
decreases-loop-group g l = length l.groups.items
