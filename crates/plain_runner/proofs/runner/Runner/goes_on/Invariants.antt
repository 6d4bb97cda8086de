use Rattle.std.proofs.Common.{◌≡◌, ◌<◌, ℕ, false}
use Rattle.net_base.specs.declared.world.World.{World}
use Rattle.plain_runner.specs.Waiting.{could_go}
use Rattle.plain_runner.specs.Tracks.{Tracks}
use Rattle.plain_runner.proofs.runner.Runner.goes_on.Given as goal

abbrev pub invariant-loop-caller : goal.invariant-loop-caller
invariant-loop-caller l = (w : World) → Tracks w l.self → (c : ℕ) → c < l.caller → could_go w l.self.history.entries c ≡ false
