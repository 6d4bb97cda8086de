use Rattle.std.proofs.Common.{take}
use Rattle.host_net.specs.Advancing.{AreStandings}
use Rattle.host_net.specs.Groups.{all_members, visits}
use Rattle.host_net.proofs.advance.standings_of.Given as goal

-- the callers of the first groups stand so
abbrev pub invariant-loop-group : goal.invariant-loop-group
invariant-loop-group g l = AreStandings g.J.Placing.tasks g.J.Placing.world (visits (all_members (take l.group-index l.group-items))) l.standings.items
