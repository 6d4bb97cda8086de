use Rattle.std.proofs.Common.{◌≡◌, length}
use Rattle.duties.proofs.Hosts.{AreSoFar}
use Rattle.duties.proofs.world_ways.WorldWays.new.Given as goal

abbrev pub invariant-loop-n : goal.invariant-loop-n
invariant-loop-n l = record { count : length l.hosts.items ≡ l.n; so_far : AreSoFar l.world l.hosts.items }
