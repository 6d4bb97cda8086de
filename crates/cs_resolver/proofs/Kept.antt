-- The nets that a word names, of those of a host.
use Rattle.std.proofs.Common.{◌≡◌, ℕ, zero, suc, ◌+◌, ◌<◌, ◌≤◌, ◌||◌, Bool, true, false, cond, List, [], ◌∷◌, length, get_or, take, refl, arith}
use Rattle.std.specs.Prelude.{filter}
use Rattle.std.specs.List.{list_any, sum_by}
use Rattle.std.proofs.lemmas.List.Sums.{sum_by-cons}

module _ {X : Type 0} (p : X → Bool) where
  -- none passes, so none is kept
  pub none_kept : (xs : List X) → list_any p xs ≡ false → length (filter p xs) ≡ 0
  none_kept [] e = refl
  none_kept (x ∷ xs) e = by (p x) (none_kept xs) e
    where
      by : (b : Bool) → (list_any p xs ≡ false → length (filter p xs) ≡ 0) → (b || list_any p xs) ≡ false → length (cond b (x ∷ filter p xs) (filter p xs)) ≡ 0
      by true rest e = absurd cc
      by false rest e = rest e

  -- one passes, so one is kept
  pub some_kept : (xs : List X) → list_any p xs ≡ true → 0 < length (filter p xs)
  some_kept [] e = absurd cc
  some_kept (x ∷ xs) e = by (p x) (some_kept xs) e
    where
      by : (b : Bool) → (list_any p xs ≡ true → 0 < length (filter p xs)) → (b || list_any p xs) ≡ true → 0 < length (cond b (x ∷ filter p xs) (filter p xs))
      by true rest e = omega arith
      by false rest e = rest e

  -- what is counted of those before one that passes, and of that one, is within what is counted of all
  pub part_within : (g : X → ℕ) (xs : List X) (i : ℕ) (d : X) → i < length xs → p (get_or xs i d) ≡ true → sum_by g (filter p (take i xs)) + g (get_or xs i d) ≤ sum_by g (filter p xs)
  part_within g [] i d lt e = absurd (omega (arith, lt))
  part_within g (x ∷ xs) zero d lt e = at (p x) e
    where
      at : (b : Bool) → b ≡ true → 0 + g x ≤ sum_by g (cond b (x ∷ filter p xs) (filter p xs))
      at true e = let within : 0 + g x ≤ sum_by g (x ∷ filter p xs) = omega (arith, sum_by-cons g x (filter p xs)) in within
      at false e = absurd cc
  part_within g (x ∷ xs) (suc i) d lt e = by (p x) (part_within g xs i d (omega (arith, lt)) e)
    where
      by : (b : Bool) → sum_by g (filter p (take i xs)) + g (get_or xs i d) ≤ sum_by g (filter p xs) → sum_by g (cond b (x ∷ filter p (take i xs)) (filter p (take i xs))) + g (get_or xs i d) ≤ sum_by g (cond b (x ∷ filter p xs) (filter p xs))
      by true h = let within : sum_by g (x ∷ filter p (take i xs)) + g (get_or xs i d) ≤ sum_by g (x ∷ filter p xs) = omega (arith, h, sum_by-cons g x (filter p xs), sum_by-cons g x (filter p (take i xs))) in within
      by false h = h
