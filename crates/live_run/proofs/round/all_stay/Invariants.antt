use Rattle.std.specs.Prelude.{◌≡◌, ◌<◌, ℕ, Some, slice_get}
use Rattle.net_base.specs.declared.world.World.{World}
use Rattle.plain_runner.specs.Tracks.{Tracks}
use Rattle.live_run.specs.Deadlines.{AllowsOne}
use Rattle.live_run.proofs.round.all_stay.Given as goal

abbrev pub invariant-loop-script : goal.invariant-loop-script
invariant-loop-script l =
    (w : World) → Tracks w l.runner → (c last : ℕ) → c < l.script → slice_get l.deadlines c ≡ Some (Some last)
    → AllowsOne w l.runner.history.entries c last l.runner.moment l.target
