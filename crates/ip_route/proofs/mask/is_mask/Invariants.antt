use Rattle.std.proofs.Common.{◌≡◌, ℕ, ◌<◌, false, ◌==◌}
use Rattle.net_base.specs.Networks.{mask_of}
use Rattle.ip_route.proofs.mask.is_mask.Given as goal

abbrev pub invariant-loop-ones : goal.invariant-loop-ones
invariant-loop-ones l = (k : ℕ) → k < l.ones → (mask_of k == l.mask) ≡ false
