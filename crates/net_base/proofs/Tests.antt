-- Tests of numbers and of texts, and tests of which one side is known.
use Rattle.std.proofs.Common.{◌≡◌, ℕ, ◌==◌, ◌&&◌, ◌||◌, Bool, true, false, List, refl, arith}
use Rattle.std.specs.Prelude.{bytes_eq}
use Rattle.std.proofs.lemmas.Bool.Decides.{nat_tests}
use Rattle.std.proofs.lemmas.Slice.Eq.{bytes_eq-Decides}

pub number_itself : (n : ℕ) → (n == n) ≡ true
number_itself n = grind (arith, nat_tests)

-- numbers that are apart are so in either order
pub apart_turned : (a b : ℕ) → (a == b) ≡ false → (b == a) ≡ false
apart_turned a b apart = grind (arith, nat_tests, apart)

pub and_none : (b : Bool) → (b && false) ≡ false
and_none true = refl
and_none false = refl

pub or_none : (b : Bool) → (b || false) ≡ b
or_none true = refl
or_none false = refl

pub or_true : (b : Bool) → (b || true) ≡ true
or_true true = refl
or_true false = refl

pub same_text : (xs : List ℕ) → bytes_eq xs xs ≡ true
same_text xs = (bytes_eq-Decides xs xs).1 refl

pub equal_texts : (xs ys : List ℕ) → bytes_eq xs ys ≡ true → xs ≡ ys
equal_texts xs ys = (bytes_eq-Decides xs ys).0
