use Rattle.std.proofs.Common.{length}
use Rattle.world_file.proofs.Bundled.{At}
use Rattle.world_file.proofs.versions.read_versions.Given as goal

abbrev pub invariant-loop-place : goal.invariant-loop-place
invariant-loop-place l = At l.text l.number l.before l.moment l.versions l.rest

abbrev pub decreases-loop-place : goal.decreases-loop-place
decreases-loop-place l = length l.rest
