use Rattle.std.proofs.Common.{◌≡◌, drop}
use Rattle.net_base.specs.Calm.{least}
use Rattle.plain_runner.specs.Waiting.{due_moments}
use Rattle.plain_runner.proofs.ending.least_due.Given as goal

abbrev pub invariant-loop-due : goal.invariant-loop-due
invariant-loop-due l = least l.least (due_moments (drop l.due-index l.dues)) ≡ least l.last (due_moments l.dues)
