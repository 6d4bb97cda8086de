-- The slot of a pair, by the pairs that were given.
use Rattle.std.proofs.Common.{◌≡◌, ◌≢◌, ℕ, zero, suc, ◌+◌, ◌<◌, ◌⊎◌, inl, inr, not, Bool, true, false, cond, List, [], ◌∷◌, ◌++◌, Option, Some, None, replicate, slice_get, length, refl, ap, sym, subst, ◌∙◌}
use Rattle.std.specs.Prelude.{slice_set}
use Rattle.std.specs.Option.{option_map, option_map_or}
use Rattle.std.specs.List.{position, position_from}
use Rattle.std.specs.Map.{keys_of, lookup}
use Rattle.std.proofs.lemmas.Option.{none-some, same_Some, slice_get-get_or, slice_get_within}
use Rattle.std.proofs.lemmas.Bool.{and_parts, true≢false}
use Rattle.std.proofs.lemmas.Iterator.Adapters.{position_from-zero}
use Rattle.std.proofs.lemmas.List.{map-append}
use Rattle.net_base.specs.declared.address.Pair.{Pair}
use Rattle.net_base.specs.Directory.{Slot, first_slot, free_slot, is_free, is_live_with, pair_place}
use Rattle.net_base.specs.Same.{same_pair}
use Rattle.host_dir.specs.declared.slots.Ends.{Ends}
use Rattle.host_dir.specs.Found.{found_at, slot_at}
use Rattle.host_dir.specs.Tables.{IsIndexed, Tables, kept_pair, kept_pairs}
use Rattle.host_dir.proofs.Firsts.{none_found, only_found}
use Rattle.net_base.proofs.Shared.{same_pair_is, same_pair_itself}

-- Pairs that are the same.

-- a live slot with the pair has it
has_pair : (p : Pair) (o : Option Pair) → option_map_or (same_pair p) o false ≡ true → o ≡ Some p
has_pair p None is = absurd (true≢false (sym is))
has_pair p (Some q) is = ap (λ (x : Pair). Some x) (sym (same_pair_is p q is))

live_has : (p : Pair) (s : Slot) → is_live_with p s ≡ true → s.pair ≡ Some p
live_has p s is = has_pair p s.pair (and_parts (not (is_free s)) _ is).1

-- Finding.

same_number : (m n : ℕ) → Some m ≡ Some n → m ≡ n
same_number m n e = same_Some m n e

-- no live slot has a pair that wasn't given
pub none_live : (p : Pair) (slots : List Slot) (given : List (Ends × ℕ)) → IsIndexed slots given → lookup (λ (e : Ends). same_pair p (kept_pair e)) given ≡ None
    → first_slot (is_live_with p) 0 slots ≡ None
unfolding IsIndexed
none_live p slots given indexed none =
    none_found (is_live_with p) slots (λ m t at live. none-some m (sym none ∙ indexed m t p at (live_has p t live)))

-- the slot of the pair that was given, where it is live with it
pub one_live : (p : Pair) (slots : List Slot) (given : List (Ends × ℕ)) (n : ℕ) (s : Slot) → IsIndexed slots given
    → lookup (λ (e : Ends). same_pair p (kept_pair e)) given ≡ Some n → slice_get slots n ≡ Some s → is_live_with p s ≡ true
    → first_slot (is_live_with p) 0 slots ≡ found_at slots (Some n)
unfolding IsIndexed
one_live p slots given n s indexed there at live =
    only_found (is_live_with p) slots n s at live
    (λ m t at' live'. same_number m n (sym (indexed m t p at' (live_has p t live')) ∙ there))

-- whether the slot of this number, if there is one, is live with the pair
pub live_at : (p : Pair) (slots : List Slot) (given : List (Ends × ℕ)) (n : ℕ) → IsIndexed slots given
    → lookup (λ (e : Ends). same_pair p (kept_pair e)) given ≡ Some n → option_map_or (is_live_with p) (slice_get slots n) false ≡ true
    → first_slot (is_live_with p) 0 slots ≡ found_at slots (Some n)
live_at p slots given n indexed there live = by (slice_get slots n) refl live
  where
    by : (o : Option Slot) → slice_get slots n ≡ o → option_map_or (is_live_with p) o false ≡ true → first_slot (is_live_with p) 0 slots ≡ found_at slots (Some n)
    by None at is = absurd (true≢false (sym is))
    by (Some s) at is = one_live p slots given n s indexed there at is

-- none, where it isn't
pub not_live : (p : Pair) (slots : List Slot) (given : List (Ends × ℕ)) (n : ℕ) → IsIndexed slots given
    → lookup (λ (e : Ends). same_pair p (kept_pair e)) given ≡ Some n → option_map_or (is_live_with p) (slice_get slots n) false ≡ false
    → first_slot (is_live_with p) 0 slots ≡ None
unfolding IsIndexed
not_live p slots given n indexed there dead =
    none_found (is_live_with p) slots
    (λ m t at live.
    let same : m ≡ n = same_number m n (sym (indexed m t p at (live_has p t live)) ∙ there) in
    true≢false (sym live ∙ ap (λ (o : Option Slot). option_map_or (is_live_with p) o false) (sym (subst (λ (k : ℕ). slice_get slots k ≡ Some t) same at)) ∙ dead))

-- and there is the slot, where it is
pub live_within : (p : Pair) (slots : List Slot) (n : ℕ) → option_map_or (is_live_with p) (slice_get slots n) false ≡ true → n < length slots
live_within p slots n live = by (slice_get slots n) refl live
  where
    by : (o : Option Slot) → slice_get slots n ≡ o → option_map_or (is_live_with p) o false ≡ true → n < length slots
    by None at is = absurd (true≢false (sym is))
    by (Some s) at is = slice_get_within slots n s at

-- Changing.

set_cases : (ss : List Slot) (n : ℕ) (new : Slot) (m : ℕ) (s : Slot) → slice_get (slice_set ss n new) m ≡ Some s
    → ((n ≡ m) × (new ≡ s)) ⊎ (slice_get ss m ≡ Some s)
set_cases [] n new m s is = absurd (none-some s is)
set_cases (x ∷ ss) zero new zero s is = inl (refl, same_Some new s is)
set_cases (x ∷ ss) zero new (suc m) s is = inr is
set_cases (x ∷ ss) (suc n) new zero s is = inr is
set_cases (x ∷ ss) (suc n) new (suc m) s is = elim (set_cases ss n new m s is) [ inl here ↦ inl (ap suc here.0, here.1) | inr there ↦ inr there ]

-- a slot that loses its pair
pub emptied : (slots : List Slot) (given : List (Ends × ℕ)) (n : ℕ) (new : Slot) → IsIndexed slots given → new.pair ≡ None → IsIndexed (slice_set slots n new) given
unfolding IsIndexed
emptied slots given n new indexed none m s p at has =
    elim (set_cases slots n new m s at) [
      | inl here ↦ absurd (none-some p (sym none ∙ ap (λ (s : Slot). s.pair) here.1 ∙ has))
      | inr there ↦ indexed m s p there has
    ]

-- a slot that keeps its pair
pub kept : (slots : List Slot) (given : List (Ends × ℕ)) (n : ℕ) (new : Slot) → IsIndexed slots given → n < length slots → new.pair ≡ (slot_at slots n).pair
    → IsIndexed (slice_set slots n new) given
unfolding IsIndexed
kept slots given n new indexed within same m s p at has =
    elim (set_cases slots n new m s at) [
      | inl here ↦ subst (λ (k : ℕ). lookup (λ (e : Ends). same_pair p (kept_pair e)) given ≡ Some k) here.0
          (indexed n (slot_at slots n) p (slice_get-get_or slots n free_slot within) (sym same ∙ ap (λ (s : Slot). s.pair) here.1 ∙ has))
      | inr there ↦ indexed m s p there has
    ]

-- Pairs that are given.

later : (p : Pair) (x : Ends) (n : ℕ) (given : List (Ends × ℕ)) (k : ℕ) → lookup (λ (e : Ends). same_pair p (kept_pair e)) given ≡ Some k
    → lookup (λ (e : Ends). same_pair p (kept_pair e)) (given ++ (x, n) ∷ []) ≡ Some k
later p x n [] k is = absurd (none-some k is)
later p x n (g ∷ gs) k is = by (same_pair p (kept_pair g.0)) is (later p x n gs k)
  where
    by : (b : Bool) → cond b (Some g.1) (lookup (λ (e : Ends). same_pair p (kept_pair e)) gs) ≡ Some k
        → (lookup (λ (e : Ends). same_pair p (kept_pair e)) gs ≡ Some k → lookup (λ (e : Ends). same_pair p (kept_pair e)) (gs ++ (x, n) ∷ []) ≡ Some k)
        → cond b (Some g.1) (lookup (λ (e : Ends). same_pair p (kept_pair e)) (gs ++ (x, n) ∷ [])) ≡ Some k
    by true e further = e
    by false e further = further e

last : (x : Ends) (n : ℕ) (given : List (Ends × ℕ)) (k : ℕ) → pair_place (kept_pair x) k (kept_pairs given) ≡ None
    → lookup (λ (e : Ends). same_pair (kept_pair x) (kept_pair e)) (given ++ (x, n) ∷ []) ≡ Some n
last x n [] k none = rw (same_pair_itself (kept_pair x)) refl
last x n (g ∷ gs) k none = by (same_pair (kept_pair x) (kept_pair g.0)) none (last x n gs (k + 1))
  where
    by : (b : Bool) → cond b (Some k) (pair_place (kept_pair x) (k + 1) (kept_pairs gs)) ≡ None
        → (pair_place (kept_pair x) (k + 1) (kept_pairs gs) ≡ None → lookup (λ (e : Ends). same_pair (kept_pair x) (kept_pair e)) (gs ++ (x, n) ∷ []) ≡ Some n)
        → cond b (Some g.1) (lookup (λ (e : Ends). same_pair (kept_pair x) (kept_pair e)) (gs ++ (x, n) ∷ [])) ≡ Some n
    by true e further = absurd (none-some k (sym e))
    by false e further = further e

-- more pairs may be given
more : (slots : List Slot) (given : List (Ends × ℕ)) (x : Ends) (n : ℕ) → IsIndexed slots given → IsIndexed slots (given ++ (x, n) ∷ [])
unfolding IsIndexed
more slots given x n indexed m s p at has = later p x n given m (indexed m s p at has)

-- a slot that is given a new pair
pub given_to : (slots : List Slot) (given : List (Ends × ℕ)) (x : Ends) (n : ℕ) (new : Slot) → IsIndexed slots given → pair_place (kept_pair x) 1 (kept_pairs given) ≡ None
    → new.pair ≡ Some (kept_pair x) → IsIndexed (slice_set slots n new) (given ++ (x, n) ∷ [])
unfolding IsIndexed
given_to slots given x n new indexed fresh has m s p at of_s =
    elim (set_cases slots n new m s at) [
      | inl here ↦
          let same : kept_pair x ≡ p = same_Some (kept_pair x) p (sym has ∙ ap (λ (s : Slot). s.pair) here.1 ∙ of_s) in
          subst (λ (q : Pair). lookup (λ (e : Ends). same_pair q (kept_pair e)) (given ++ (x, n) ∷ []) ≡ Some m) same (last x n given 1 fresh ∙ ap Some here.0)
      | inr there ↦ later p x n given m (indexed m s p there of_s)
    ]

-- slots that were never taken have no pairs
never : (k : ℕ) (n : ℕ) (s : Slot) → slice_get (replicate k free_slot) n ≡ Some s → s.pair ≡ None
never zero n s at = absurd (none-some s at)
never (suc k) zero s at = ap (λ (s : Slot). s.pair) (sym (same_Some free_slot s at))
never (suc k) (suc n) s at = never k n s at

pub none_given : (k : ℕ) (given : List (Ends × ℕ)) → IsIndexed (replicate k free_slot) given
unfolding IsIndexed
none_given k given n s p at has = absurd (none-some p (sym (never k n s at) ∙ has))

-- Numbers of pairs.

numbers_from : (test : Ends → Bool) (p : Pair) (i : ℕ) (given : List (Ends × ℕ)) → ((e : Ends) → test e ≡ same_pair p (kept_pair e))
    → option_map (λ n. n + 1) (position_from test i (keys_of given)) ≡ pair_place p (i + 1) (kept_pairs given)
numbers_from test p i [] law = refl
numbers_from test p i (g ∷ gs) law = by (test g.0) refl (numbers_from test p (i + 1) gs law)
  where
    by : (b : Bool) → test g.0 ≡ b → option_map (λ n. n + 1) (position_from test (i + 1) (keys_of gs)) ≡ pair_place p (i + 1 + 1) (kept_pairs gs)
        → option_map (λ n. n + 1) (position_from test i (keys_of (g ∷ gs))) ≡ pair_place p (i + 1) (kept_pairs (g ∷ gs))
    by true t further = rw (t, ← law g.0, t) (refl)
    by false t further = rw (t, ← law g.0, t) (further)

-- the place of a key, from 0, is the pair's number, from 1
pub number_is : (test : Ends → Bool) (p : Pair) (given : List (Ends × ℕ)) → ((e : Ends) → test e ≡ same_pair p (kept_pair e))
    → option_map (λ n. n + 1) (position test (keys_of given)) ≡ pair_place p 1 (kept_pairs given)
number_is test p given law = ap (option_map (λ n. n + 1)) (position_from-zero test (keys_of given)) ∙ numbers_from test p 0 given law

-- what is looked up by a test of keys
pub lookup_is : (test : Ends → Bool) (p : Pair) (given : List (Ends × ℕ)) → ((e : Ends) → test e ≡ same_pair p (kept_pair e))
    → lookup test given ≡ lookup (λ (e : Ends). same_pair p (kept_pair e)) given
lookup_is test p [] law = refl
lookup_is test p (g ∷ gs) law = rw (law g.0, lookup_is test p gs law) refl

-- a pair that wasn't given is looked up in vain
pub absent : (p : Pair) (k : ℕ) (given : List (Ends × ℕ)) → pair_place p k (kept_pairs given) ≡ None → lookup (λ (e : Ends). same_pair p (kept_pair e)) given ≡ None
absent p k [] none = refl
absent p k (g ∷ gs) none = by (same_pair p (kept_pair g.0)) none (absent p (k + 1) gs)
  where
    by : (b : Bool) → cond b (Some k) (pair_place p (k + 1) (kept_pairs gs)) ≡ None
        → (pair_place p (k + 1) (kept_pairs gs) ≡ None → lookup (λ (e : Ends). same_pair p (kept_pair e)) gs ≡ None)
        → cond b (Some g.1) (lookup (λ (e : Ends). same_pair p (kept_pair e)) gs) ≡ None
    by true e further = absurd (none-some k (sym e))
    by false e further = further e

-- a pair that is given comes last
pub pairs_added : (x : Ends) (n : ℕ) (given : List (Ends × ℕ)) → kept_pairs (given ++ (x, n) ∷ []) ≡ kept_pairs given ++ kept_pair x ∷ []
pairs_added x n given = map-append (λ (e : Ends × ℕ). kept_pair e.0) given ((x, n) ∷ [])

-- two parts that are the same
pub tables_are : {slots others : List Slot} {pairs more : List Pair} → slots ≡ others → pairs ≡ more
    → ◌≡◌ {A = Tables} (record { slots = slots; pairs = pairs }) (record { slots = others; pairs = more })
tables_are one two = λ i. record { slots = one i; pairs = two i }
