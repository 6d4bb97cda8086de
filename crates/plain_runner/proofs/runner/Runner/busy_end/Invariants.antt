use Rattle.std.proofs.Common.{◌≡◌, ◌<◌, ◌==◌, ◌&&◌, ℕ, false, length}
use Rattle.net_base.specs.declared.world.World.{World}
use Rattle.net_base.specs.Calm.{most_entries}
use Rattle.net_base.specs.Next.{by}
use Rattle.plain_runner.specs.Waiting.{could_go}
use Rattle.plain_runner.specs.Tracks.{Tracks}
use Rattle.plain_runner.proofs.runner.Runner.busy_end.Given as goal

abbrev pub invariant-loop-caller : goal.invariant-loop-caller
invariant-loop-caller l = (w : World) → Tracks w l.self → (c : ℕ) → c < l.caller
    → ((length (by l.self.history.entries c) == most_entries) && could_go w l.self.history.entries c) ≡ false
