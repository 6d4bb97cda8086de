-- Changes at a place of a list.
use Rattle.std.proofs.Common.{◌≡◌, ℕ, ◌+◌, ◌<◌, ◌≤◌, suc, zero, Bool, true, false, not, cond, List, [], ◌∷◌, length, map, get_or, refl, sym, ap, ◌∙◌, arith, Option, Some, None}
use Rattle.std.specs.Prelude.{bytes_eq, nat_lt, position, slice_set, if◌then◌else◌}
use Rattle.std.specs.List.{last_or, list_any, position_or_len}
use Rattle.std.proofs.lemmas.Bool.{and_parts, or_parts}
use Rattle.std.proofs.lemmas.Bool.Decides.{nat_tests}
use Rattle.std.proofs.lemmas.List.Sums.{prefix_len-le-length}
use Rattle.std.proofs.lemmas.Option.{none-some, same_Some}
use Rattle.net_base.specs.declared.world.MediumSpec.{MediumSpec}
use Rattle.net_base.specs.World.{all_apart}
use Rattle.world_text.specs.WorldLines.{at_last, is_medium_named, on_named_medium}
use Rattle.world_text.proofs.Shared.{false-of-not}
use Rattle.net_base.proofs.Shared.{equal_texts}

-- The last element.

pub last_set : {A : Type 0} (f : A → A) (xs : List A) (n : ℕ) (d new : A) → n + 1 ≡ length xs → new ≡ f (get_or xs n d) → slice_set xs n new ≡ at_last f xs
last_set f [] n d new e is = absurd (omega (arith, e))
last_set f (x ∷ []) zero d new e is = ap (λ y. y ∷ []) is
last_set f (x ∷ []) (suc n) d new e is = absurd (omega (arith, e))
last_set f (x ∷ y ∷ xs) zero d new e is = absurd (omega (arith, e))
last_set f (x ∷ y ∷ xs) (suc n) d new e is = ap (λ ys. x ∷ ys) (last_set f (y ∷ xs) n d new (omega (arith, e)) is)

pub no_last : {A : Type 0} (f : A → A) (xs : List A) → length xs ≡ 0 → at_last f xs ≡ xs
no_last f [] e = refl
no_last f (x ∷ xs) e = absurd (omega (arith, e))

pub last_is : {A : Type 0} (o : Option A) (xs : List A) (n : ℕ) (d : A) → n + 1 ≡ length xs → last_or o xs ≡ Some (get_or xs n d)
last_is o [] n d e = absurd (omega (arith, e))
last_is o (x ∷ []) zero d e = refl
last_is o (x ∷ []) (suc n) d e = absurd (omega (arith, e))
last_is o (x ∷ y ∷ xs) zero d e = absurd (omega (arith, e))
last_is o (x ∷ y ∷ xs) (suc n) d e = last_is (Some x) (y ∷ xs) n d (omega (arith, e))

pub none_last : {A : Type 0} (o : Option A) (xs : List A) → length xs ≡ 0 → last_or o xs ≡ o
none_last o [] e = refl
none_last o (x ∷ xs) e = absurd (omega (arith, e))

-- Places.

-- a place that is found is before the length
pub place_some : {A : Type 0} (p : A → Bool) (xs : List A) (n : ℕ) → position p xs ≡ Some n → n ≡ position_or_len p xs
place_some p xs n e = by (nat_lt (position_or_len p xs) (length xs)) e
  where
    by : (b : Bool) → cond b (Some (position_or_len p xs)) None ≡ Some n → n ≡ position_or_len p xs
    by true f = sym (same_Some (position_or_len p xs) n f)
    by false f = absurd (none-some n f)

pub place_none : {A : Type 0} (p : A → Bool) (xs : List A) → position p xs ≡ None → length xs ≡ position_or_len p xs
place_none p xs e = by (nat_lt (position_or_len p xs) (length xs)) refl e (prefix_len-le-length (λ x. not (p x)) xs)
  where
    reach : (m n : ℕ) → nat_lt m n ≡ false → m ≤ n → n ≡ m
    reach m n f h = let k : n ≤ m = grind (arith, nat_tests) in omega (arith, k, h)

    by : (b : Bool) → nat_lt (position_or_len p xs) (length xs) ≡ b → cond b (Some (position_or_len p xs)) None ≡ None → position_or_len p xs ≤ length xs → length xs ≡ position_or_len p xs
    by true is f h = absurd (none-some (position_or_len p xs) (sym f))
    by false is f h = reach (position_or_len p xs) (length xs) is h

-- The medium of a name.

-- media with other names stay
others_stay : (called : List ℕ) (f : MediumSpec → MediumSpec) (ms : List MediumSpec) → list_any (bytes_eq called) (map (λ (s : MediumSpec). s.name) ms) ≡ false → on_named_medium called f ms ≡ ms
others_stay called f [] none = refl
others_stay called f (s ∷ ms) none =
    let parts = or_parts (bytes_eq called s.name) (list_any (bytes_eq called) (map (λ (m : MediumSpec). m.name) ms)) none in
    ap (λ b. (if b then f s else s) ∷ on_named_medium called f ms) parts.0 ∙ ap (λ xs. s ∷ xs) (others_stay called f ms parts.1)

abbrev place : List ℕ → List MediumSpec → ℕ
place called ms = position_or_len (is_medium_named called) ms

pub medium_set : (called : List ℕ) (f : MediumSpec → MediumSpec) (ms : List MediumSpec) (d new : MediumSpec) → all_apart bytes_eq (map (λ (s : MediumSpec). s.name) ms) ≡ true
    → place called ms < length ms → new ≡ f (get_or ms (place called ms) d) → slice_set ms (place called ms) new ≡ on_named_medium called f ms
medium_set called f [] d new apart lt is = absurd (omega (arith, lt))
medium_set called f (s ∷ ms) d new apart lt is =
    let parts = and_parts (not (list_any (bytes_eq s.name) (map (λ (m : MediumSpec). m.name) ms))) (all_apart bytes_eq (map (λ (m : MediumSpec). m.name) ms)) apart in
    by (bytes_eq called s.name) refl (false-of-not _ parts.0) lt is (λ h g. medium_set called f ms d new parts.1 h g)
  where
    by : (b : Bool) → bytes_eq called s.name ≡ b → list_any (bytes_eq s.name) (map (λ (m : MediumSpec). m.name) ms) ≡ false
        → cond (not b) (1 + place called ms) 0 < suc (length ms) → new ≡ f (get_or (s ∷ ms) (cond (not b) (1 + place called ms) 0) d)
        → (place called ms < length ms → new ≡ f (get_or ms (place called ms) d) → slice_set ms (place called ms) new ≡ on_named_medium called f ms)
        → slice_set (s ∷ ms) (cond (not b) (1 + place called ms) 0) new ≡ (if b then f s else s) ∷ on_named_medium called f ms
    by true e none h g later =
        ap (λ x. x ∷ ms) g ∙ ap (λ xs. f s ∷ xs) (sym (others_stay called f ms (ap (λ c. list_any (bytes_eq c) (map (λ (m : MediumSpec). m.name) ms)) (equal_texts called s.name e) ∙ none)))
    by false e none h g later = next (place called ms) h g later
      where
        next : (n : ℕ) → 1 + n < suc (length ms) → new ≡ f (get_or (s ∷ ms) (1 + n) d) → (n < length ms → new ≡ f (get_or ms n d) → slice_set ms n new ≡ on_named_medium called f ms)
            → slice_set (s ∷ ms) (1 + n) new ≡ s ∷ on_named_medium called f ms
        next n h2 g2 later2 =
            let one : 1 + n ≡ suc n = omega arith in
            ap (λ m. slice_set (s ∷ ms) m new) one ∙ ap (λ xs. s ∷ xs) (later2 (omega (arith, h2)) (g2 ∙ ap (λ m. f (get_or (s ∷ ms) m d)) one))

-- no medium has the name where its place is past the last
pub medium_none : (called : List ℕ) (f : MediumSpec → MediumSpec) (ms : List MediumSpec) → (place called ms < length ms → ⊥) → on_named_medium called f ms ≡ ms
medium_none called f [] past = refl
medium_none called f (s ∷ ms) past = by (bytes_eq called s.name) refl past (λ h. medium_none called f ms h)
  where
    by : (b : Bool) → bytes_eq called s.name ≡ b → (cond (not b) (1 + place called ms) 0 < suc (length ms) → ⊥) → ((place called ms < length ms → ⊥) → on_named_medium called f ms ≡ ms)
        → (if b then f s else s) ∷ on_named_medium called f ms ≡ s ∷ ms
    by true e h later = absurd (h (omega arith))
    by false e h later = ap (λ xs. s ∷ xs) (later (λ lt. h (omega (arith, lt))))
