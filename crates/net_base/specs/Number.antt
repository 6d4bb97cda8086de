-- The ids of an end's messages, which wrap, and the numbers of the messages, which don't.
use Rattle.std.specs.Prelude.{◌≡◌, ℕ, ◌+◌, ◌-◌, ◌%◌, ◌^◌, ◌<◌, ◌≤◌, Option, Some, None, nat_lt, nat_le, if◌then◌else◌, ◌&&◌}

-- the id of message k of an end that starts at base, where message 0 is the sync
abbrev pub id_of : ℕ → ℕ → ℕ
id_of base k = (base + k) % 2 ^ 32

-- k is one of the 20 numbers after got, and the id is its own
pub record IsNumber (base id got k : ℕ) : Type 0 where
  pub above : got < k
  pub within : k ≤ got + 20
  pub its_id : id ≡ id_of base k

-- how far the id lies ahead of that of message got
abbrev pub ahead : ℕ → ℕ → ℕ → ℕ
ahead base id got = (id + 2 ^ 32 - id_of base got) % 2 ^ 32

-- the one of the 20 numbers after got whose id this is, or none
unfoldable pub number : ℕ → ℕ → ℕ → Option ℕ
number base id got =
    if nat_lt 0 (ahead base id got) && nat_le (ahead base id got) 20
    then Some (got + ahead base id got)
    else None
