use Rattle.std.specs.Prelude.{◌≡◌, ◌<◌, ℕ, Some, IsSome, true, slice_get}
use Rattle.net_base.specs.Next.{next_recorded}
use Rattle.live_run.proofs.round.is_held.Given as goal

abbrev pub invariant-loop-script : goal.invariant-loop-script
invariant-loop-script l = (c : ℕ) → c < l.script → slice_get l.grows c ≡ Some true → IsSome (next_recorded l.world l.runner.history.entries c)
