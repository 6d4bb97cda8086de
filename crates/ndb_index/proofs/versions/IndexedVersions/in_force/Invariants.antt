use Rattle.std.proofs.Common.{◌-◌}
use Rattle.ndb_index.proofs.InForce.{Halved}
use Rattle.ndb_index.proofs.versions.IndexedVersions.in_force.Given as goal

abbrev pub invariant-loop-end : goal.invariant-loop-end
invariant-loop-end l = Halved l.self l.now l.first l.end

abbrev pub decreases-loop-end : goal.decreases-loop-end
decreases-loop-end l = l.end - l.first
