-- A list that begins another, by index.
use Rattle.std.proofs.Common.{◌≡◌, ℕ, zero, suc, ◌≤◌, List, [], ◌∷◌, ◌++◌, length, Some, slice_get, ◌⊎◌, inl, inr, refl, sym, ap, ◌∙◌, get_or, arith}
use Rattle.std.proofs.lemmas.Option.{slice_get-get_or, slice_get_past, none-some, same_Some}
use Rattle.std.proofs.lemmas.Bool.{cases_lt}
use Rattle.prefix_law.proofs.Pairs.{IsPrefixOf}

abbrev pub Begins : List (List ℕ) → List (List ℕ) → Type 0
Begins xs ys = (k : ℕ) (t : List ℕ) → slice_get xs k ≡ Some t → slice_get ys k ≡ Some t

pub begins_itself : (xs : List (List ℕ)) → Begins xs xs
begins_itself xs k t is = is

pub begins_more : (xs ys : List (List ℕ)) → Begins xs (xs ++ ys)
begins_more [] ys k t is = absurd (none-some t is)
begins_more (x ∷ xs) ys zero t is = is
begins_more (x ∷ xs) ys (suc k) t is = begins_more xs ys k t is

-- what stands in a list with one more item
pub in_pushed : (xs : List (List ℕ)) (y : List ℕ) (k : ℕ) (t : List ℕ) → slice_get (xs ++ y ∷ []) k ≡ Some t
    → (slice_get xs k ≡ Some t) ⊎ ((k ≡ length xs) × (y ≡ t))
in_pushed [] y zero t is = inr (refl, same_Some y t is)
in_pushed [] y (suc k) t is = absurd (none-some t is)
in_pushed (x ∷ xs) y zero t is = inl is
in_pushed (x ∷ xs) y (suc k) t is =
    elim (in_pushed xs y k t is) [ inl there ↦ inl there | inr last ↦ inr (ap suc last.0, last.1) ]

pub pushed_begins : (xs ys : List (List ℕ)) (y : List ℕ) → Begins xs ys → slice_get ys (length xs) ≡ Some y → Begins (xs ++ y ∷ []) ys
pushed_begins xs ys y begins there k t is =
    elim (in_pushed xs y k t is) [ inl old ↦ begins k t old | inr last ↦ rw last.0 (there ∙ ap (λ (u : List ℕ). Some u) last.1) ]

pub begins_length : (xs ys : List (List ℕ)) → Begins xs ys → length xs ≤ length ys
begins_length xs ys begins =
    elim (cases_lt (length ys) (length xs)) [
      | inl less ↦ absurd (none-some (get_or xs (length ys) []) (sym (slice_get_past ys (length ys) (omega arith)) ∙ begins (length ys) (get_or xs (length ys) []) (slice_get-get_or xs (length ys) [] less)))
      | inr more ↦ more
    ]

pub begins_prefix : (xs ys : List (List ℕ)) → Begins xs ys → IsPrefixOf xs ys
begins_prefix [] ys begins = (ys, refl)
begins_prefix (x ∷ xs) [] begins = absurd (none-some x (begins 0 x refl))
begins_prefix (x ∷ xs) (y ∷ ys) begins =
    let rest = begins_prefix xs ys (λ k t is. begins (suc k) t is) in
    let same : y ≡ x = same_Some y x (begins 0 x refl) in
    (rest.0, rw (same, rest.1) refl)

pub at_push : (xs : List (List ℕ)) (y : List ℕ) → slice_get (xs ++ y ∷ []) (length xs) ≡ Some y
at_push [] y = refl
at_push (x ∷ xs) y = at_push xs y

-- a list that begins another and is as long is begun by it
pub begins_back : (xs ys : List (List ℕ)) → Begins xs ys → length xs ≡ length ys → Begins ys xs
begins_back [] [] begins same k t is = is
begins_back [] (y ∷ ys) begins same k t is = absurd (omega (arith, same))
begins_back (x ∷ xs) [] begins same k t is = absurd (omega (arith, same))
begins_back (x ∷ xs) (y ∷ ys) begins same zero t is = ap (λ (u : List ℕ). Some u) (sym (same_Some y x (begins 0 x refl))) ∙ is
begins_back (x ∷ xs) (y ∷ ys) begins same (suc k) t is = begins_back xs ys (λ j u h. begins (suc j) u h) (omega (arith, same)) k t is

pub begins_same : (xs ys : List (List ℕ)) → Begins xs ys → Begins ys xs → xs ≡ ys
begins_same [] [] f g = refl
begins_same [] (y ∷ ys) f g = absurd (none-some y (g 0 y refl))
begins_same (x ∷ xs) [] f g = absurd (none-some x (f 0 x refl))
begins_same (x ∷ xs) (y ∷ ys) f g =
    let first : x ≡ y = sym (same_Some y x (f 0 x refl)) in
    let rest = begins_same xs ys (λ k t is. f (suc k) t is) (λ k t is. g (suc k) t is) in
    cc (first, rest)
