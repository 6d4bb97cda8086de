-- What few lines or no line of a text has.
use Rattle.std.proofs.Common.{◌≡◌, ℕ, Bool, true, false, ◌||◌, cond, List, [], ◌∷◌, refl, ap, ◌∙◌}
use Rattle.std.specs.List.{list_any, slice_split, onto_first}
use Rattle.net_base.proofs.Shared.{or_true}

module _ (part found : ℕ → Bool) where
  any_onto : (x : ℕ) (parts : List (List ℕ)) → list_any (list_any found) (onto_first x parts) ≡ true → (found x || list_any (list_any found) parts) ≡ true
  any_onto x [] e = by (found x) e
    where
      by : (b : Bool) → ((b || false) || false) ≡ true → (b || false) ≡ true
      by true e = refl
      by false e = e
  any_onto x (first ∷ parts) e = by (found x) (list_any found first) (list_any (list_any found) parts) e
    where
      by : (a b c : Bool) → ((a || b) || c) ≡ true → (a || (b || c)) ≡ true
      by true b c e = refl
      by false b c e = e

  -- what some part of a text has, the text has
  pub any_part : (text : List ℕ) → list_any (list_any found) (slice_split part text) ≡ true → list_any found text ≡ true
  any_part [] e = e
  any_part (x ∷ text) e = by (part x) (any_part text) e
    where
      at : (a : Bool) → (list_any (list_any found) (slice_split part text) ≡ true → list_any found text ≡ true) → (a || list_any (list_any found) (slice_split part text)) ≡ true → (a || list_any found text) ≡ true
      at true behind e = refl
      at false behind e = behind e

      by : (b : Bool) → (list_any (list_any found) (slice_split part text) ≡ true → list_any found text ≡ true) → list_any (list_any found) (cond b ([] ∷ slice_split part text) (onto_first x (slice_split part text))) ≡ true → (found x || list_any found text) ≡ true
      by true behind e = ap (λ c. found x || c) (behind e) ∙ or_true (found x)
      by false behind e = at (found x) behind (any_onto x (slice_split part text) e)
