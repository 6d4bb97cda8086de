-- Drawn words.
use Rattle.std.specs.Prelude.{ℕ, ◌-◌}
use Rattle.rand_pcg.specs.Lcg.{Lcg, advance, started, increment_of}
use Rattle.rand_pcg.specs.Pcg.{multiplier_64, pcg32}

-- the generator of a stream, as it begins
abbrev pub generator : ℕ → ℕ → Lcg
generator seed stream = started 64 multiplier_64 seed (increment_of 64 stream)

-- the k-th word of a stream, from 1
abbrev pub drawn_word : ℕ → ℕ → ℕ → ℕ
drawn_word seed stream k = (pcg32 (advance 64 multiplier_64 (k - 1) (generator seed stream))).0
