-- The first slot that passes a test.
use Rattle.std.proofs.Common.{◌≡◌, ℕ, zero, suc, ◌+◌, ◌<◌, Bool, true, false, cond, List, [], ◌∷◌, Option, Some, None, drop, get_or, slice_get, length, refl, ap, sym, subst, ◌∙◌, arith}
use Rattle.std.specs.List.{position_from}
use Rattle.std.specs.Option.{option_map}
use Rattle.std.proofs.lemmas.Option.{none-some, same_Some, get_or_from_slice_get, slice_get_read}
use Rattle.net_base.specs.Directory.{Slot, first_slot, free_slot}
use Rattle.host_dir.specs.Found.{found_at, slot_numbered, slot_at}

-- what stands first in the rest of a list
here : (k : ℕ) (all : List Slot) (s : Slot) (ss : List Slot) → drop k all ≡ s ∷ ss → slot_at all k ≡ s
here zero all s ss e = ap (λ xs. get_or xs 0 free_slot) e
here (suc k) [] s ss e = ap (λ xs. get_or xs 0 free_slot) e
here (suc k) (x ∷ xs) s ss e = here k xs s ss e

after : (k : ℕ) (all : List Slot) (s : Slot) (ss : List Slot) → drop k all ≡ s ∷ ss → drop (suc k) all ≡ ss
after zero [] s ss e = absurd (omega (arith, ap (λ (xs : List Slot). length xs) e))
after zero (x ∷ xs) s ss e = ap (drop 1) e
after (suc k) [] s ss e = absurd (omega (arith, ap (λ (xs : List Slot). length xs) e))
after (suc k) (x ∷ xs) s ss e = after k xs s ss e

rest : (k : ℕ) (all : List Slot) (s : Slot) (ss : List Slot) → drop k all ≡ s ∷ ss → drop (k + 1) all ≡ ss
rest k all s ss e =
    let next : suc k ≡ k + 1 = omega arith in
    subst (λ (n : ℕ). drop n all ≡ ss) next (after k all s ss e)

first_from : (test : Slot → Bool) (all : List Slot) (k : ℕ) (ss : List Slot) → drop k all ≡ ss → first_slot test k ss ≡ option_map (slot_numbered all) (position_from test k ss)
first_from test all k [] e = refl
first_from test all k (s ∷ ss) e = by (test s) refl (first_from test all (k + 1) ss (rest k all s ss e))
  where
    by : (b : Bool) → test s ≡ b → first_slot test (k + 1) ss ≡ option_map (slot_numbered all) (position_from test (k + 1) ss)
        → first_slot test k (s ∷ ss) ≡ option_map (slot_numbered all) (position_from test k (s ∷ ss))
    by true t further = rw (t) (ap (λ (x : Slot). Some (k, x)) (sym (here k all s ss e)))
    by false t further = rw (t) (further)

-- the slot that is found stands in the place that passes first
pub first_is : (test : Slot → Bool) (slots : List Slot) → first_slot test 0 slots ≡ found_at slots (position_from test 0 slots)
first_is test slots = first_from test slots 0 slots refl

-- the slot that is found, where its place is known
pub first_was : (test : Slot → Bool) (slots : List Slot) (o : Option ℕ) → o ≡ position_from test 0 slots → first_slot test 0 slots ≡ found_at slots o
first_was test slots o is = first_is test slots ∙ ap (found_at slots) (sym is)

found_from : (p : Slot → Bool) (n : ℕ) (ss : List Slot) (f : ℕ × Slot) → first_slot p n ss ≡ Some f
    → (j : ℕ) × (f.0 ≡ n + j) × (slice_get ss j ≡ Some f.1) × (p f.1 ≡ true)
found_from p n [] f is = absurd (none-some f is)
found_from p n (s ∷ ss) f is = go (p s) refl is (found_from p (n + 1) ss f)
  where
    go : (b : Bool) → p s ≡ b → cond b (Some (n, s)) (first_slot p (n + 1) ss) ≡ Some f
        → (first_slot p (n + 1) ss ≡ Some f → (j : ℕ) × (f.0 ≡ (n + 1) + j) × (slice_get ss j ≡ Some f.1) × (p f.1 ≡ true))
        → (j : ℕ) × (f.0 ≡ n + j) × (slice_get (s ∷ ss) j ≡ Some f.1) × (p f.1 ≡ true)
    go true passes is later =
        let same : ◌≡◌ {A = ℕ × Slot} (n, s) f = same_Some _ _ is in
        (0, omega (arith, ap (λ (x : ℕ × Slot). x.0) same), ap (λ (x : ℕ × Slot). Some x.1) same, subst (λ (x : ℕ × Slot). p x.1 ≡ true) same passes)
    go false passes is later = let r = later is in (suc r.0, omega (arith, r.1), r.2, r.3)

-- the slot that is found stands at its number, and passes
pub slot_found : (p : Slot → Bool) (ss : List Slot) (f : ℕ × Slot) → first_slot p 0 ss ≡ Some f → (slice_get ss f.0 ≡ Some f.1) × (p f.1 ≡ true)
slot_found p ss f is = let r = found_from p 0 ss f is in (subst (λ (j : ℕ). slice_get ss j ≡ Some f.1) (omega (arith, r.1)) r.2, r.3)

-- a slot that passes is found, or one before it
pub some_found : (p : Slot → Bool) (k : ℕ) (ss : List Slot) (n : ℕ) (s : Slot) → slice_get ss n ≡ Some s → p s ≡ true → first_slot p k ss ≡ None → ⊥
some_found p k [] n s at passes none = none-some s at
some_found p k (x ∷ xs) zero s at passes none =
    let there : p x ≡ true = ap p (same_Some x s at) ∙ passes in
    none-some (k, x) (sym (rw there at none))
some_found p k (x ∷ xs) (suc n) s at passes none = by (p x) none (some_found p (k + 1) xs n s at passes)
  where
    by : (b : Bool) → cond b (Some (k, x)) (first_slot p (k + 1) xs) ≡ None → (first_slot p (k + 1) xs ≡ None → ⊥) → ⊥
    by true e further = none-some (k, x) (sym e)
    by false e further = further e

-- where at most one passes, it is found
pub only_found : (p : Slot → Bool) (ss : List Slot) (n : ℕ) (s : Slot) → slice_get ss n ≡ Some s → p s ≡ true
    → ((m : ℕ) (t : Slot) → slice_get ss m ≡ Some t → p t ≡ true → m ≡ n) → first_slot p 0 ss ≡ found_at ss (Some n)
only_found p ss n s at passes only = by (first_slot p 0 ss) refl
  where
    by : (o : Option (ℕ × Slot)) → first_slot p 0 ss ≡ o → o ≡ Some (slot_numbered ss n)
    by None e = absurd (some_found p 0 ss n s at passes e)
    by (Some f) e =
        let found = slot_found p ss f e in
        let same : f.0 ≡ n = only f.0 f.1 found.0 found.1 in
        let has : slot_at ss n ≡ f.1 = get_or_from_slice_get ss n f.1 free_slot (subst (λ (m : ℕ). slice_get ss m ≡ Some f.1) same found.0) in
        ap (λ (m : ℕ). Some (m, f.1)) same ∙ ap (λ (t : Slot). Some (n, t)) (sym has)

-- where none passes, none is found
pub none_found : (p : Slot → Bool) (ss : List Slot) → ((m : ℕ) (t : Slot) → slice_get ss m ≡ Some t → p t ≡ true → ⊥) → first_slot p 0 ss ≡ None
none_found p ss never = by (first_slot p 0 ss) refl
  where
    by : (o : Option (ℕ × Slot)) → first_slot p 0 ss ≡ o → o ≡ None
    by None e = refl
    by (Some f) e = let found = slot_found p ss f e in absurd (never f.0 f.1 found.0 found.1)

-- what is found passes
pub passes_at : (p : Slot → Bool) (ss : List Slot) (n : ℕ) → first_slot p 0 ss ≡ found_at ss (Some n) → p (slot_at ss n) ≡ true
passes_at p ss n is = (slot_found p ss (slot_numbered ss n) is).1

-- an element that is read is the slot of its number
pub at_place : (ss : List Slot) (n : ℕ) (s : Slot) → n < length ss → s ≡ get_or ss n s → s ≡ slot_at ss n
at_place ss n s within is = sym (get_or_from_slice_get ss n s free_slot (slice_get_read ss _ n s refl within is))
