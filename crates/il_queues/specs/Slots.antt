-- The messages that stand in slots.
use Rattle.std.specs.Prelude.{◌≡◌, ℕ, ◌+◌, ◌<◌, ◌==◌, Bool, false, List, [], ◌∷◌, length, Option, Some, None, slice_index_or, remove, is_some, IsTrue}
use Rattle.il_queues.specs.declared.early.Numbered.{Numbered}
use Rattle.net_base.specs.IlEnd.{Early, early_at, without_early}

-- the messages in these slots, in order
abbrev pub messages_in : List (Option Numbered) → List Early
messages_in [] = []
messages_in (None ∷ slots) = messages_in slots
messages_in (Some m ∷ slots) = record { number = m.number; text = m.text } ∷ messages_in slots

-- the message with this number stands in the slot
abbrev pub has_number : ℕ → Option Numbered → Bool
has_number k None = false
has_number k (Some m) = m.number == k

-- the text in the slot, if there is one
abbrev pub text_in : Option Numbered → Option (List ℕ)
text_in None = None
text_in (Some m) = Some m.text

-- the message with this number stands in this slot
pub record IsAtSlot (k : ℕ) (slots : List (Option Numbered)) (place : ℕ) : Type 0 where
  pub within : place < length slots
  pub there : IsTrue (is_some (early_at k (messages_in slots)))
  pub text : text_in (slice_index_or slots place None) ≡ early_at k (messages_in slots)
  pub rest : messages_in (remove slots place) ≡ without_early k (messages_in slots)
  pub one_less : length (messages_in (remove slots place)) + 1 ≡ length (messages_in slots)

-- it stands in no slot
pub record IsNowhere (k : ℕ) (slots : List (Option Numbered)) : Type 0 where
  pub none : early_at k (messages_in slots) ≡ None
  pub stays : without_early k (messages_in slots) ≡ messages_in slots
