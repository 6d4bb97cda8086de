-- Lists of which no element passes a test.
use Rattle.std.proofs.Common.{◌≡◌, ℕ, zero, suc, ◌-◌, ◌<◌, Bool, false, not, List, [], ◌∷◌, length, drop, get_or, ap, arith, Some, None, refl}
use Rattle.std.specs.List.{list_any, before_first, after_last, suffix_len}
use Rattle.std.proofs.lemmas.List.Sums.{suffix_len_is}
use Rattle.formats.proofs.NdbPlain.{or_false_first, or_false_rest, one_add}

pub before_first-none : {X : Type 0} (p : X → Bool) (xs : List X) → list_any p xs ≡ false → before_first p xs ≡ xs
before_first-none p [] h = refl
before_first-none p (x ∷ xs) h =
    let e = or_false_first (p x) (list_any p xs) h in
    rw (e, one_add) (ap (λ ys. x ∷ ys) (before_first-none p xs (or_false_rest (p x) (list_any p xs) h)))

none-at : {X : Type 0} (p : X → Bool) (xs : List X) (k : ℕ) (d : X) → list_any p xs ≡ false → k < length xs → p (get_or xs k d) ≡ false
none-at p [] k d h lt = absurd (omega arith)
none-at p (x ∷ xs) zero d h lt = or_false_first (p x) (list_any p xs) h
none-at p (x ∷ xs) (suc k) d h lt = none-at p xs k d (or_false_rest (p x) (list_any p xs) h) (omega arith)

pub after_last-none : (p : List ℕ → Bool) (xs : List (List ℕ)) → list_any p xs ≡ false → after_last p xs ≡ xs
after_last-none p xs h =
    let e = suffix_len_is (λ x. not (p x)) xs 0 [] (omega arith) (λ k low lt. ap not (none-at p xs k [] h lt)) (λ none. absurd (omega arith)) in
    let z : length xs - suffix_len (λ x. not (p x)) xs ≡ 0 = omega (arith, e) in
    ap (λ (n : ℕ). drop n xs) z

pub some_none : {X : Type 0} {x : X} → Some x ≡ None → ⊥
some_none h = cc
