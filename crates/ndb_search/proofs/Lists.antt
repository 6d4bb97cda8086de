-- Functions on lists that give the piece of each element in a row.
use Rattle.std.proofs.Common.{◌≡◌, ℕ, ◌+◌, ◌<◌, List, [], ◌∷◌, ◌++◌, length, get_or, take, drop, refl, sym, ap, ◌∙◌, Some, None, add-one}
use Rattle.std.proofs.lemmas.List.{take_more, take-append-drop}
use Rattle.std.proofs.Math.Seq.{drop-cons}
use Rattle.net_base.specs.Networks.{first_of}

-- F of two lists in a row is F of each in a row
pub record Joins {X Y : Type 0} (F : List X → List Y) : Type 0 where
  pub none : F [] ≡ []
  pub both : (xs ys : List X) → F (xs ++ ys) ≡ F xs ++ F ys

-- one more element
pub joins_more : {X Y : Type 0} (F : List X → List Y) → Joins F → (xs : List X) (i : ℕ) (x : X) → i < length xs → x ≡ get_or xs i x → F (take (i + 1) xs) ≡ F (take i xs) ++ F (x ∷ [])
joins_more F joins xs i x within here =
    ap F (take_more xs i x within) ∙ joins.both (take i xs) (get_or xs i x ∷ [])
    ∙ ap (λ y. F (take i xs) ++ F (y ∷ [])) (sym here)

-- a list is what stands before a place, the element there, and the rest
pub at_place : {X : Type 0} (xs : List X) (i : ℕ) (d : X) → i < length xs → take i xs ++ get_or xs i d ∷ drop (i + 1) xs ≡ xs
at_place xs i d within =
    rw add-one (ap (λ rest. take i xs ++ rest) (sym (drop-cons xs i d within)) ∙ take-append-drop i xs)

first_append : {Y : Type 0} (ys zs : List Y) (y : Y) → first_of ys ≡ Some y → first_of (ys ++ zs) ≡ Some y
first_append [] zs y e = absurd cc
first_append (w ∷ ys) zs y e = e

-- the first of a piece is the first of all where the pieces before it are empty
pub joins_first : {X Y : Type 0} (F : List X → List Y) → Joins F → (xs : List X) (i : ℕ) (x : X) (y : Y) → i < length xs → x ≡ get_or xs i x → F (take i xs) ≡ [] → first_of (F (x ∷ [])) ≡ Some y → first_of (F xs) ≡ Some y
joins_first {X} {Y} F joins xs i x y within here none first =
    let cut : F xs ≡ F (x ∷ []) ++ F (drop (i + 1) xs) =
    ap F (sym (at_place xs i x within))
    ∙ joins.both (take i xs) (get_or xs i x ∷ drop (i + 1) xs)
    ∙ ap (λ front. front ++ F (get_or xs i x ∷ drop (i + 1) xs)) none
    ∙ joins.both (get_or xs i x ∷ []) (drop (i + 1) xs)
    ∙ ap (λ z. F (z ∷ []) ++ F (drop (i + 1) xs)) (sym here) in
    rw cut (first_append (F (x ∷ [])) (F (drop (i + 1) xs)) y first)

-- a list without a first element is empty
pub empty_from_first : {Y : Type 0} (ys : List Y) → first_of ys ≡ None → ys ≡ []
empty_from_first [] e = refl
empty_from_first (y ∷ ys) e = absurd cc
