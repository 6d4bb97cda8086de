-- The slots whose bits are set in a number.
use Rattle.std.specs.Prelude.{ℕ, ◌/◌, ◌%◌, ◌^◌, ◌==◌, Bool, List, [], ◌∷◌, filter, if◌then◌else◌}
use Rattle.std.specs.List.{range_with_len}

abbrev pub is_slot_taken : ℕ → ℕ → Bool
is_slot_taken slots n = slots / 2 ^ n % 2 == 1

abbrev pub taken_at : ℕ → ℕ → List ℕ
taken_at slots n = if is_slot_taken slots n then n ∷ [] else []

-- those below a number, ascending
unfoldable pub taken_below : ℕ → ℕ → List ℕ
taken_below n slots = filter (is_slot_taken slots) (range_with_len 0 n)

-- the slots 0 to 31
abbrev pub taken : ℕ → List ℕ
taken slots = taken_below 32 slots
