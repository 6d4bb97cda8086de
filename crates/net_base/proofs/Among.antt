-- Whether one of a list passes a test, looked for from the first on.
use Rattle.std.proofs.Common.{◌≡◌, ℕ, ◌+◌, ◌<◌, Bool, true, false, cond, ◌||◌, List, [], ◌∷◌, length, take, get_or, Some, None, refl, ap, ◌∙◌, arith}
use Rattle.std.specs.Prelude.{zero, suc}
use Rattle.std.specs.List.{list_any, find}
use Rattle.std.proofs.lemmas.Bool.{or_parts}

pub neither : (a b : Bool) → a ≡ false → b ≡ false → (a || b) ≡ false
neither true b e f = absurd cc
neither false b e f = f

pub any-more : {X : Type 0} (test : X → Bool) (xs : List X) (i : ℕ) (d : X) → i < length xs → list_any test (take i xs) ≡ false → test (get_or xs i d) ≡ false → list_any test (take (suc i) xs) ≡ false
any-more test [] i d h none this = refl
any-more test (x ∷ xs) zero d h none this = neither (test x) false this refl
any-more test (x ∷ xs) (suc i) d h none this =
    let parts = or_parts (test x) (list_any test (take i xs)) none in
    neither (test x) (list_any test (take (suc i) xs)) parts.0 (any-more test xs i d (omega (arith, h)) parts.1 this)

pub any-here : {X : Type 0} (test : X → Bool) (xs : List X) (i : ℕ) (d : X) → i < length xs → test (get_or xs i d) ≡ true → list_any test xs ≡ true
any-here test [] i d h this = absurd (omega (arith, h))
any-here test (x ∷ xs) zero d h this = ap (λ (b : Bool). b || list_any test xs) this
any-here test (x ∷ xs) (suc i) d h this = by (test x) (any-here test xs i d (omega (arith, h)) this)
  where
    by : (b : Bool) → list_any test xs ≡ true → (b || list_any test xs) ≡ true
    by true e = refl
    by false e = e

pub any-next : {X : Type 0} (test : X → Bool) (xs : List X) (i : ℕ) (d : X) → i < length xs → list_any test (take i xs) ≡ false → test (get_or xs i d) ≡ false → list_any test (take (i + 1) xs) ≡ false
any-next test xs i d h none this =
    let e : i + 1 ≡ suc i = omega arith in
    ap (λ (n : ℕ). list_any test (take n xs)) e ∙ any-more test xs i d h none this

-- The first that passes a test.

module _ {X : Type 0} (test : X → Bool) where
  find-next : (xs : List X) (i : ℕ) (d : X) → i < length xs → find test (take i xs) ≡ None → test (get_or xs i d) ≡ false → find test (take (suc i) xs) ≡ None
  find-next [] i d h none this = absurd (omega (arith, h))
  find-next (x ∷ xs) zero d h none this = ap (λ (b : Bool). cond b (Some x) None) this
  find-next (x ∷ xs) (suc i) d h none this = by (test x) none (λ rest. find-next xs i d (omega (arith, h)) rest this)
    where
      by : (b : Bool) → cond b (Some x) (find test (take i xs)) ≡ None → (find test (take i xs) ≡ None → find test (take (suc i) xs) ≡ None) → cond b (Some x) (find test (take (suc i) xs)) ≡ None
      by true e later = absurd cc
      by false e later = later e

  pub find-on : (xs : List X) (i : ℕ) (d : X) → i < length xs → find test (take i xs) ≡ None → test (get_or xs i d) ≡ false → find test (take (i + 1) xs) ≡ None
  find-on xs i d h none this =
      let e : i + 1 ≡ suc i = omega arith in
      ap (λ (n : ℕ). find test (take n xs)) e ∙ find-next xs i d h none this

  pub find-here : (xs : List X) (i end : ℕ) (d : X) → i < end → i < length xs → find test (take i xs) ≡ None → test (get_or xs i d) ≡ true → find test (take end xs) ≡ Some (get_or xs i d)
  find-here [] i end d lt h none this = absurd (omega (arith, h))
  find-here (x ∷ xs) i zero d lt h none this = absurd (omega (arith, lt))
  find-here (x ∷ xs) zero (suc end) d lt h none this = ap (λ (b : Bool). cond b (Some x) (find test (take end xs))) this
  find-here (x ∷ xs) (suc i) (suc end) d lt h none this = by (test x) none (λ rest. find-here xs i end d (omega (arith, lt)) (omega (arith, h)) rest this)
    where
      by : (b : Bool) → cond b (Some x) (find test (take i xs)) ≡ None → (find test (take i xs) ≡ None → find test (take end xs) ≡ Some (get_or xs i d)) → cond b (Some x) (find test (take end xs)) ≡ Some (get_or xs i d)
      by true e later = absurd cc
      by false e later = later e

-- What stands at a place, whatever stands for nothing.

pub own-default : {X : Type 0} (xs : List X) (i : ℕ) (x d : X) → i < length xs → x ≡ get_or xs i d → x ≡ get_or xs i x
own-default [] i x d h here = absurd (omega (arith, h))
own-default (y ∷ xs) zero x d h here = here
own-default (y ∷ xs) (suc i) x d h here = own-default xs i x d (omega (arith, h)) here
