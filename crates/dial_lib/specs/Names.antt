-- Names that are bound: a name and its dotted one, and the slots of their files.
use Rattle.std.proofs.Common.{◌≡◌, ℕ, ◌<◌, ap, Bool, true, false, not, List, [], ◌∷◌, length, subst, nat_lt, Some, None, bytes_eq, if◌then◌else◌, refl, sym, rules, tests, arith}
use Rattle.std.specs.List.{list_all}
use Rattle.std.proofs.lemmas.Option.{none-some, same_Some}
use Rattle.std.proofs.lemmas.Bool.{and_parts}
use Rattle.net_base.specs.Steps.{Bound, Names, Fid, fid_among, fid_of, is_among, is_bound, bind, unbind, without, dotted_name}
use Rattle.dial_lib.specs.Slots.{HaveSlots, in_slots}
use Rattle.net_base.proofs.Shared.{and_none}

-- Spellings.

shorter : (xs ys : List ℕ) → length xs < length ys → bytes_eq xs ys ≡ false
shorter [] [] lt = search (rules, tests)
shorter [] (y ∷ ys) lt = refl
shorter (x ∷ xs) [] lt = refl
shorter (x ∷ xs) (y ∷ ys) lt = rw (shorter xs ys (omega (arith, lt))) (and_none _)

longer : (xs ys : List ℕ) → length ys < length xs → bytes_eq xs ys ≡ false
longer [] [] lt = search (rules, tests)
longer [] (y ∷ ys) lt = refl
longer (x ∷ xs) [] lt = refl
longer (x ∷ xs) (y ∷ ys) lt = rw (longer xs ys (omega (arith, lt))) (and_none _)

-- a name is not its dotted one
pub apart : (called : List ℕ) → bytes_eq called (dotted_name called) ≡ false
apart called = shorter called (dotted_name called) (omega arith)

pub apart_too : (called : List ℕ) → bytes_eq (dotted_name called) called ≡ false
apart_too called = longer (dotted_name called) called (omega arith)

-- Names.

without_free : (called : List ℕ) (bound : List Bound) → is_among bound called ≡ false → without called bound ≡ bound
without_free called [] free = refl
without_free called (b ∷ bs) free = each (bytes_eq called b.called) refl free (without_free called bs)
  where
    each : (t : Bool) → bytes_eq called b.called ≡ t → is_among (b ∷ bs) called ≡ false → (is_among bs called ≡ false → without called bs ≡ bs) → without called (b ∷ bs) ≡ b ∷ bs
    each true is free ih = absurd (search (rules, tests, is, free))
    each false is free ih = rw (is) (ap (λ xs. b ∷ xs) (ih (search (rules, tests, is, free))))

pub unbind_free : (called : List ℕ) (base : Names) → is_bound base called ≡ false → unbind called base ≡ base
unbind_free called base free = ap (λ (xs : List Bound). record base { bound = xs }) (without_free called base.bound free)

none_among : (called : List ℕ) (bound : List Bound) → fid_among called bound ≡ None → is_among bound called ≡ false
none_among called [] is = refl
none_among called (b ∷ bs) is = each (bytes_eq called b.called) refl is (none_among called bs)
  where
    each : (t : Bool) → bytes_eq called b.called ≡ t → (if t then Some b.fid else fid_among called bs) ≡ None → (fid_among called bs ≡ None → is_among bs called ≡ false) → is_among (b ∷ bs) called ≡ false
    each true same none ih = absurd (none-some b.fid (sym none))
    each false apart none ih = rw (apart) (ih none)

-- a name that is bound to nothing isn't bound
pub none_bound : (called : List ℕ) (names : Names) → fid_of called names ≡ None → is_bound names called ≡ false
none_bound called names is = none_among called names.bound is

-- Slots.

pub below : (n : ℕ) → nat_lt n 32 ≡ true → n < 32
below n is = search (rules, tests, is)

slot_among : (called : List ℕ) (bound : List Bound) (f : Fid) → list_all in_slots bound ≡ true → fid_among called bound ≡ Some f → f.slot < 32
slot_among called [] f slots is = absurd (none-some f is)
slot_among called (b ∷ bs) f slots is =
    let both = and_parts (nat_lt b.fid.slot 32) (list_all in_slots bs) slots in
    each (bytes_eq called b.called) both.0 is (slot_among called bs f both.1)
  where
    each : (t : Bool) → nat_lt b.fid.slot 32 ≡ true → (if t then Some b.fid else fid_among called bs) ≡ Some f → (fid_among called bs ≡ Some f → f.slot < 32) → f.slot < 32
    each true low is ih = below f.slot (ap_slot (same_Some b.fid f is) low)
      where
        ap_slot : b.fid ≡ f → nat_lt b.fid.slot 32 ≡ true → nat_lt f.slot 32 ≡ true
        ap_slot same low = subst (λ (g : Fid). nat_lt g.slot 32 ≡ true) same low
    each false low is ih = ih is

-- the file that a name is bound to is in a slot that there is
pub bound_slot : (called : List ℕ) (names : Names) (f : Fid) → HaveSlots names → fid_of called names ≡ Some f → f.slot < 32
bound_slot called names f slots is = slot_among called names.bound f slots is

pub bind_slots : (called : List ℕ) (f : Fid) (names : Names) → f.slot < 32 → HaveSlots names → HaveSlots (bind called f names)
bind_slots called f names low slots = rw (in_range f.slot low) slots
  where
    in_range : (n : ℕ) → n < 32 → nat_lt n 32 ≡ true
    in_range n lt = search (rules, tests, lt)

without_slots : (called : List ℕ) (bound : List Bound) → list_all in_slots bound ≡ true → list_all in_slots (without called bound) ≡ true
without_slots called [] slots = refl
without_slots called (b ∷ bs) slots =
    let both = and_parts (nat_lt b.fid.slot 32) (list_all in_slots bs) slots in
    each (not (bytes_eq called b.called)) both.0 (without_slots called bs both.1)
  where
    each : (t : Bool) → nat_lt b.fid.slot 32 ≡ true → list_all in_slots (without called bs) ≡ true → list_all in_slots (if t then b ∷ without called bs else without called bs) ≡ true
    each true low rest = rw low rest
    each false low rest = rest

pub unbind_slots : (called : List ℕ) (names : Names) → HaveSlots names → HaveSlots (unbind called names)
unbind_slots called names slots = without_slots called names.bound slots
