use Rattle.std.proofs.Common.{◌≡◌, ◌++◌, drop}
use Rattle.std.specs.Prelude.{flat_map}
use Rattle.pcapng.specs.Frames.{medium_block}
use Rattle.pcapng.proofs.capture.put_interfaces.Given as goal

-- what is written, and what is still to write
abbrev pub invariant-loop-medium : goal.invariant-loop-medium
invariant-loop-medium l = l.out ++ flat_map medium_block (drop l.medium-index l.media) ≡ l.initial.out ++ flat_map medium_block l.media
