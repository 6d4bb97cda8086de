-- Where a search for a number ends.
use Rattle.std.proofs.Common.{◌≡◌, ℕ, suc, ◌+◌, ◌-◌, ◌≤◌, ◌==◌, Bool, true, false, List, [], ◌∷◌, Option, Some, None, refl, arith, subst, sym, IfSome, IfNone}
use Rattle.std.specs.List.{position_from}
use Rattle.il_queues.specs.declared.early.Numbered.{Numbered}
use Rattle.il_queues.specs.Slots.{has_number, IsAtSlot, IsNowhere}

-- what a search tells that began at a place
abbrev pub Tells : ℕ → ℕ → List (Option Numbered) → Option ℕ → Type 0
Tells k n slots None = IsNowhere k slots
Tells k n slots (Some i) = (n ≤ i) × IsAtSlot k slots (i - n)

-- an empty slot before the others changes nothing
empty_before : (k n : ℕ) (slots : List (Option Numbered)) (r : Option ℕ) → Tells k (n + 1) slots r → Tells k n (None ∷ slots) r
empty_before k n slots None h = record { none = h.none; stays = h.stays }
empty_before k n slots (Some i) h =
    let at : IsAtSlot k (None ∷ slots) (suc (i - (n + 1))) = record { within = omega (arith, h.1.within); there = h.1.there; text = h.1.text; rest = h.1.rest; one_less = h.1.one_less } in
    let same : suc (i - (n + 1)) ≡ i - n = omega (arith, h.0) in
    (omega (arith, h.0), subst (IsAtSlot k (None ∷ slots)) same at)

-- nor does a message with another number
other_before : (k n : ℕ) (m : Numbered) (slots : List (Option Numbered)) (r : Option ℕ) → (m.number == k) ≡ false → Tells k (n + 1) slots r → Tells k n (Some m ∷ slots) r
other_before k n m slots None other h = record { none = rw other h.none; stays = rw (other, h.stays) refl }
other_before k n m slots (Some i) other h =
    let at : IsAtSlot k (Some m ∷ slots) (suc (i - (n + 1))) = record {
      within = omega (arith, h.1.within);
      there = rw other h.1.there;
      text = rw other h.1.text;
      rest = rw (other, h.1.rest) refl;
      one_less = omega (arith, h.1.one_less);
    } in
    let same : suc (i - (n + 1)) ≡ i - n = omega (arith, h.0) in
    (omega (arith, h.0), subst (IsAtSlot k (Some m ∷ slots)) same at)

-- the message is the first
is_first : (k n : ℕ) (m : Numbered) (slots : List (Option Numbered)) → (m.number == k) ≡ true → IsAtSlot k (Some m ∷ slots) (n - n)
is_first k n m slots same =
    let at : IsAtSlot k (Some m ∷ slots) 0 = record { within = omega arith; there = rw same refl; text = rw same refl; rest = rw same refl; one_less = omega arith } in
    let none : 0 ≡ n - n = omega arith in
    subst (IsAtSlot k (Some m ∷ slots)) none at

-- so the first slot decides, by this test, where the search of the others is told
decides : (k n : ℕ) (m : Numbered) (slots : List (Option Numbered)) (same : Bool) → (m.number == k) ≡ same → Tells k (n + 1) slots (position_from (has_number k) (n + 1) slots) → Tells k n (Some m ∷ slots) (position_from (has_number k) n (Some m ∷ slots))
decides k n m slots true same others = rw same (omega arith, is_first k n m slots same)
decides k n m slots false other others = rw other (other_before k n m slots (position_from (has_number k) (n + 1) slots) other others)

found_from : (k n : ℕ) (slots : List (Option Numbered)) → Tells k n slots (position_from (has_number k) n slots)
found_from k n [] = record { none = refl; stays = refl }
found_from k n (None ∷ slots) = empty_before k n slots (position_from (has_number k) (n + 1) slots) (found_from k (n + 1) slots)
found_from k n (Some m ∷ slots) = decides k n m slots (m.number == k) refl (found_from k (n + 1) slots)

pub is_at : (k : ℕ) (slots : List (Option Numbered)) (r : Option ℕ) → r ≡ position_from (has_number k) 0 slots → IfSome r (IsAtSlot k slots)
is_at k slots None is = tt
is_at k slots (Some i) is =
    let found : Tells k 0 slots (Some i) = subst (Tells k 0 slots) (sym is) (found_from k 0 slots) in
    let same : i - 0 ≡ i = omega arith in
    subst (IsAtSlot k slots) same found.1

pub is_nowhere : (k : ℕ) (slots : List (Option Numbered)) (r : Option ℕ) → r ≡ position_from (has_number k) 0 slots → IfNone r (IsNowhere k slots)
is_nowhere k slots None is = subst (Tells k 0 slots) (sym is) (found_from k 0 slots)
is_nowhere k slots (Some i) is = tt
