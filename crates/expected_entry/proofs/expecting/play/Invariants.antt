use Rattle.std.proofs.Common.{take}
use Rattle.plain_runner.specs.Followed.{Followed}
use Rattle.expected_entry.proofs.expecting.play.Given as goal

abbrev pub invariant-loop-entry : goal.invariant-loop-entry
invariant-loop-entry l = Followed l.world (take l.entry-index l.past) l.runner
