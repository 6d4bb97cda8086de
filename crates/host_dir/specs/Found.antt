-- Slots by their numbers.
use Rattle.std.specs.Prelude.{ℕ, List, Option, get_or}
use Rattle.std.specs.Option.{option_map}
use Rattle.net_base.specs.Directory.{Slot, Taker, free_slot}
use Rattle.host_dir.specs.declared.slots.TakerAt.{TakerAt}

-- the slot of this number
abbrev pub slot_at : List Slot → ℕ → Slot
slot_at slots n = get_or slots n free_slot

-- a slot with its number
abbrev pub slot_numbered : List Slot → ℕ → (ℕ × Slot)
slot_numbered slots n = (n, slot_at slots n)

-- the slot that was found, with its number
abbrev pub found_at : List Slot → Option ℕ → Option (ℕ × Slot)
found_at slots place = option_map (slot_numbered slots) place

-- the taker that was found
abbrev pub taker_at : List Slot → TakerAt → Taker
taker_at slots t = record { free = slot_numbered slots t.free; listener = slot_numbered slots t.listener }
