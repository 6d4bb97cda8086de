use Rattle.std.proofs.Common.{◌≡◌, ℕ, ◌<◌, false, ◌==◌}
use Rattle.net_base.specs.Networks.{mask_of}
use Rattle.words.proofs.mask.mask_bits.Given as goal

abbrev pub invariant-loop-bits : goal.invariant-loop-bits
invariant-loop-bits l = (k : ℕ) → k < l.bits → (mask_of k == l.mask) ≡ false
