use Rattle.std.proofs.Common.{◌≡◌, ◌+◌, ◌*◌, ◌≤◌}
use Rattle.net_base.specs.Summary.{answered_steps}
use Rattle.plain_runner.proofs.Standing.{answered_from}
use Rattle.plain_runner.proofs.runner.Runner.answered.Given as goal

abbrev pub invariant-loop-caller : goal.invariant-loop-caller
invariant-loop-caller l =
    (l.answered + answered_from l.world l.self.history.entries l.caller ≡ answered_steps l.world l.self.history.entries)
    × (l.answered ≤ l.caller * 18446744073709551616)
