use Rattle.std.proofs.Common.{◌+◌, length}
use Rattle.plain_runner.proofs.Opening.{AreFirst}
use Rattle.plain_runner.proofs.runner.callers_of.Given as goal

abbrev pub invariant-loop-script : goal.invariant-loop-script
invariant-loop-script l = AreFirst l.world l.script-index l.callers.items

abbrev pub invariant-loop-medium : goal.invariant-loop-medium
invariant-loop-medium l = AreFirst l.world (length l.world.scripts + l.medium) l.callers.items
