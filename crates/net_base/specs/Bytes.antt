-- Numbers in network byte order: the high byte first.
use Rattle.std.specs.Prelude.{ℕ, ◌+◌, ◌*◌, List, ◌∷◌, ◌++◌, take, drop, slice_index}

-- the 16-bit number at a place
abbrev pub word_at : ℕ → List ℕ → ℕ
word_at i bytes = 256 * slice_index bytes i + slice_index bytes (i + 1)

-- the 32-bit number at a place
abbrev pub long_at : ℕ → List ℕ → ℕ
long_at i bytes = 65536 * word_at i bytes + word_at (i + 2) bytes

-- bytes with zero for the 16-bit number at a place
abbrev pub blanked : ℕ → List ℕ → List ℕ
blanked i bytes = take i bytes ++ 0 ∷ 0 ∷ drop (i + 2) bytes
