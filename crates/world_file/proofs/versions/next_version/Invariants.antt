use Rattle.std.proofs.Common.{length}
use Rattle.world_file.proofs.Scanning.{Scan}
use Rattle.world_file.proofs.versions.next_version.Given as goal

abbrev pub invariant-loop-rest : goal.invariant-loop-rest
invariant-loop-rest l = Scan l.text l.rest l.lines

abbrev pub decreases-loop-rest : goal.decreases-loop-rest
decreases-loop-rest l = length l.rest
