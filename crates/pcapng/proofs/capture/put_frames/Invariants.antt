use Rattle.std.proofs.Common.{◌++◌}
use Rattle.std.specs.Prelude.{flat_map}
use Rattle.pcapng.specs.Frames.{frame_block, stamped_frames}
use Rattle.pcapng.proofs.Following.{Captured}
use Rattle.pcapng.proofs.capture.put_frames.Given as goal

abbrev pub invariant-loop-stamp : goal.invariant-loop-stamp
invariant-loop-stamp l =
    Captured l.world l.copies.entries l.entries l.stamp l.runner l.out
    (l.initial.out ++ flat_map (frame_block l.copies.entries) (stamped_frames l.world l.entries))
