-- Sums of words: over lists end to end, and over bytes with a zero in the sum field.
use Rattle.std.proofs.Common.{◌≡◌, ℕ, zero, suc, ◌+◌, ◌*◌, ◌^◌, ◌<◌, ◌≤◌, List, [], ◌∷◌, ◌++◌, length, take, drop, sum, refl, ap, ◌∙◌, inl, inr, arith}
use Rattle.std.proofs.lemmas.Bool.{cases_lt}
use Rattle.std.proofs.lemmas.Bool.Decides.{nat_tests}
use Rattle.std.proofs.lemmas.List.{get_or-take, get_or-drop, get_or_past, length-take, length-take-le}
use Rattle.std.proofs.lemmas.List.Sums.{sum_by-append}
use Rattle.std.specs.Int.{byte_at, bytes_high_first}
use Rattle.net_base.specs.Bytes.{blanked}
use Rattle.formats.specs.Sum.{words, total_of, sum_of}
use Rattle.formats.proofs.WireNumbers.{IsBytes}

-- ---- bytes

pub IsBytes-append : (xs ys : List ℕ) → IsBytes xs → IsBytes ys → IsBytes (xs ++ ys)
IsBytes-append [] ys p q i = q i
IsBytes-append (x ∷ xs) ys p q zero = p 0
IsBytes-append (x ∷ xs) ys p q (suc i) = IsBytes-append xs ys (λ k. p (suc k)) q i

pub IsBytes-take : (n : ℕ) (bytes : List ℕ) → IsBytes bytes → IsBytes (take n bytes)
IsBytes-take n bytes h i =
    elim (cases_lt i n) [
      | inl lt ↦ rw (get_or-take n bytes i 0 lt) (h i)
      | inr le ↦ rw (get_or_past (take n bytes) i 0 (omega (arith, length-take n bytes))) (omega arith)
    ]

pub IsBytes-drop : (n : ℕ) (bytes : List ℕ) → IsBytes bytes → IsBytes (drop n bytes)
IsBytes-drop n bytes h i = rw get_or-drop (h (n + i))

IsBytes-zeros : (bytes : List ℕ) → IsBytes bytes → IsBytes (0 ∷ 0 ∷ bytes)
IsBytes-zeros bytes h zero = omega arith
IsBytes-zeros bytes h (suc zero) = omega arith
IsBytes-zeros bytes h (suc (suc i)) = h i

pub IsBytes-blanked : (i : ℕ) (bytes : List ℕ) → IsBytes bytes → IsBytes (blanked i bytes)
IsBytes-blanked i bytes h =
    IsBytes-append (take i bytes) (0 ∷ 0 ∷ drop (i + 2) bytes) (IsBytes-take i bytes h) (IsBytes-zeros (drop (i + 2) bytes) (IsBytes-drop (i + 2) bytes h))

byte_at-fits : (k x : ℕ) → byte_at k x < 256
byte_at-fits zero x = omega arith
byte_at-fits (suc k) x = omega arith

pub IsBytes-high_first : (n x : ℕ) → IsBytes (bytes_high_first n x)
IsBytes-high_first zero x i = omega arith
IsBytes-high_first (suc k) x zero = byte_at-fits k x
IsBytes-high_first (suc k) x (suc i) = IsBytes-high_first k x i

-- ---- words

-- after an even number of bytes the words begin anew
pub words-append : (k : ℕ) (xs ys : List ℕ) → length xs ≡ 2 * k → words (xs ++ ys) ≡ words xs ++ words ys
words-append zero [] ys e = refl
words-append zero (x ∷ xs) ys e = absurd (omega (arith, e))
words-append (suc k) [] ys e = absurd (omega (arith, e))
words-append (suc k) (x ∷ []) ys e = absurd (omega (arith, e))
words-append (suc k) (x ∷ y ∷ xs) ys e =
    ap (λ (ws : List ℕ). (256 * x + y) ∷ ws) (words-append k xs ys (omega (arith, e)))

pub sum-words-append : (k : ℕ) (xs ys : List ℕ) → length xs ≡ 2 * k → sum (words (xs ++ ys)) ≡ sum (words xs) + sum (words ys)
sum-words-append k xs ys e = ap sum (words-append k xs ys e) ∙ sum_by-append (λ x. x) (words xs) (words ys)

-- what the sum field held doesn't count
pub sum-words-blanked : (k : ℕ) (bytes : List ℕ) → 2 * k ≤ length bytes → sum (words (blanked (2 * k) bytes)) ≡ sum (words (take (2 * k) bytes)) + sum (words (drop (2 * k + 2) bytes))
sum-words-blanked k bytes h =
    sum-words-append k (take (2 * k) bytes) (0 ∷ 0 ∷ drop (2 * k + 2) bytes) (length-take-le (2 * k) bytes h)

-- ---- the ones' complement sum

-- a sum is a word again
pub total_of-fits : (bytes : List ℕ) → IsBytes bytes → total_of (words bytes) < 2 ^ 16
total_of-fits [] h = omega arith
total_of-fits (high ∷ []) h = let b = h 0 in grind (arith, nat_tests)
total_of-fits (high ∷ low ∷ rest) h =
    let a = h 0 in
    let b = h 1 in
    let c = total_of-fits rest (λ i. h (suc (suc i))) in
    grind (arith, nat_tests)

-- a zero word in front doesn't count
pub sum_of-zeros : (bytes : List ℕ) → IsBytes bytes → sum_of (0 ∷ 0 ∷ bytes) ≡ sum_of bytes
unfolding sum_of
sum_of-zeros bytes h = let fits = total_of-fits bytes h in grind (arith, nat_tests)

pub sum_of-fits : (bytes : List ℕ) → sum_of bytes < 2 ^ 16
unfolding sum_of
sum_of-fits bytes = omega arith
