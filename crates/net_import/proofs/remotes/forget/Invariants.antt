use Rattle.std.proofs.Common.{◌≡◌, length}
use Rattle.net_base.specs.Remotes.{without_remote}
use Rattle.net_import.proofs.remotes.forget.Given as goal

-- as much is left to forget as at first
abbrev pub invariant-loop-place : goal.invariant-loop-place
invariant-loop-place l = without_remote l.name l.left ≡ without_remote l.name l.initial.left

abbrev pub decreases-loop-place : goal.decreases-loop-place
decreases-loop-place l = length l.left.remotes
