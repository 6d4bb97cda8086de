use Rattle.std.proofs.Common.{◌≡◌}
use Rattle.net_base.specs.Calm.{unfinished}
use Rattle.net_base.specs.Net.{after}
use Rattle.plain_runner.proofs.Standing.{unfinished_from}
use Rattle.plain_runner.proofs.runner.Runner.is_unfinished.Given as goal

abbrev pub invariant-loop-caller : goal.invariant-loop-caller
invariant-loop-caller l = unfinished_from l.world l.self.history.entries l.caller ≡ unfinished l.world (after l.world l.self.history.entries)
