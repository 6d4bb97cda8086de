-- Slots one by one.
use Rattle.std.proofs.Common.{◌≡◌, ℕ, zero, suc, ◌+◌, Bool, true, false, List, [], ◌∷◌, ◌++◌, filter, map, if◌then◌else◌, refl, sym, ap, ◌∙◌, arith}
use Rattle.std.specs.Prelude.{decimal}
use Rattle.std.specs.List.{range_with_len}
use Rattle.std.proofs.lemmas.List.{map-append}
use Rattle.net_tree.specs.Slots.{is_slot_taken, taken_at, taken_below}

filter_more : (p : ℕ → Bool) (a n k : ℕ) → a + n ≡ k → filter p (range_with_len a (suc n)) ≡ filter p (range_with_len a n) ++ (if p k then k ∷ [] else [])
filter_more p a zero k is = ap (λ (j : ℕ). if p j then j ∷ [] else []) (omega (arith, is))
filter_more p a (suc n) k is = by (p a) _ _ _ (filter_more p (a + 1) n k (omega (arith, is)))
  where
    by : (b : Bool) (xs ys last : List ℕ) → xs ≡ ys ++ last → (if b then a ∷ xs else xs) ≡ (if b then a ∷ ys else ys) ++ last
    by true xs ys last e = ap (λ (zs : List ℕ). a ∷ zs) e
    by false xs ys last e = e

number_more : (p : ℕ → Bool) (n : ℕ) → filter p (range_with_len 0 (n + 1)) ≡ filter p (range_with_len 0 n) ++ (if p n then n ∷ [] else [])
number_more p n =
    let next : n + 1 ≡ suc n = omega arith in
    ap (λ (k : ℕ). filter p (range_with_len 0 k)) next ∙ filter_more p 0 n n (omega arith)

pub none_below : (slots : ℕ) → taken_below 0 slots ≡ []
unfolding taken_below
none_below slots = refl

taken_next : (slots n : ℕ) → map decimal (taken_below (n + 1) slots) ≡ map decimal (taken_below n slots) ++ map decimal (taken_at slots n)
unfolding taken_below
taken_next slots n =
    ap (λ (ns : List ℕ). map decimal ns) (number_more (is_slot_taken slots) n)
    ∙ map-append decimal (filter (is_slot_taken slots) (range_with_len 0 n)) (taken_at slots n)

-- one slot more
pub taken_more : (slots n : ℕ) (first : List ℕ) (lines more : List (List ℕ)) → more ≡ lines ++ map decimal (taken_at slots n)
    → lines ≡ first ∷ map decimal (taken_below n slots) → more ≡ first ∷ map decimal (taken_below (n + 1) slots)
taken_more slots n first lines more is before =
    is ∙ (ap (λ (xs : List (List ℕ)). xs ++ map decimal (taken_at slots n)) before ∙ ap (λ (xs : List (List ℕ)). first ∷ xs) (sym (taken_next slots n)))
