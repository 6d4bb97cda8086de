use Rattle.std.proofs.Common.{take}
use Rattle.replay_views.proofs.Following.{Captured}
use Rattle.replay_views.proofs.capture.capture_of.Given as goal

abbrev pub invariant-loop-entry : goal.invariant-loop-entry
invariant-loop-entry l = Captured l.world l.medium (take l.entry-index l.entry-items) l.runner l.out
