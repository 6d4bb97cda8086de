-- How far bytes look like a message: each step is what the fault after it presumes.
use Rattle.std.specs.Prelude.{◌≡◌, ◌≤◌, ℕ, List, length}
use Rattle.net_base.specs.Bytes.{word_at}
use Rattle.formats.specs.IlWire.{il_sum, il_length}

-- there are bytes enough for a header
abbrev pub HasIlHeader : List ℕ → Type 0
HasIlHeader bytes = 18 ≤ length bytes

-- .. with the right sum
abbrev pub HasSum : List ℕ → Type 0
HasSum bytes = HasIlHeader bytes × (word_at 0 bytes ≡ il_sum bytes)

-- .. and the right length
abbrev pub HasLength : List ℕ → Type 0
HasLength bytes = HasSum bytes × (il_length bytes ≡ length bytes)
