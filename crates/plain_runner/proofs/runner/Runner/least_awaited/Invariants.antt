use Rattle.std.proofs.Common.{◌≡◌}
use Rattle.net_base.specs.declared.world.World.{World}
use Rattle.net_base.specs.Calm.{least}
use Rattle.plain_runner.specs.Waiting.{awaited_moments}
use Rattle.plain_runner.specs.Tracks.{Tracks}
use Rattle.plain_runner.proofs.Targets.{awaited_from}
use Rattle.plain_runner.proofs.runner.Runner.least_awaited.Given as goal

abbrev pub invariant-loop-caller : goal.invariant-loop-caller
invariant-loop-caller l = (w : World) → Tracks w l.self
    → least l.least (awaited_from w l.self.history.entries l.caller-index) ≡ least l.last (awaited_moments w l.self.history.entries)
