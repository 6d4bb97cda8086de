-- Numbers among the bytes of a word.
use Rattle.std.proofs.Common.{◌≡◌, ℕ, zero, suc, ◌+◌, ◌-◌, ◌*◌, ◌/◌, ◌%◌, ◌<◌, Bool, true, false, ◌&&◌, nat_le, if◌then◌else◌, List, [], ◌∷◌, ◌++◌, drop, refl, sym, ◌∙◌, ap, append_assoc, append-nil, arith}
use Rattle.net_base.specs.Numeral.{numeral}
use Rattle.net_base.specs.Plain.{IsClean}
use Rattle.words.proofs.Shared.{numeral_by_steps}

abbrev pub is_digit : ℕ → Bool
is_digit b = nat_le 48 b && nat_le b 57

-- a digit comes first
abbrev pub starts_digit : List ℕ → Bool
starts_digit [] = false
starts_digit (b ∷ bs) = is_digit b

-- the number that goes on with the digits that come first, and what follows them
unfoldable pub take_number : ℕ → List ℕ → ℕ × List ℕ
take_number so_far [] = (so_far, [])
take_number so_far (b ∷ bs) = if is_digit b then take_number (so_far * 10 + (b - 48)) bs else (so_far, b ∷ bs)

-- the number that a word is
unfoldable pub number : List ℕ → ℕ
number word = (take_number 0 word).0

-- so many numbers, with a byte between two of them
unfoldable pub numbers : ℕ → List ℕ → List ℕ
numbers zero bytes = []
numbers (suc k) bytes = (take_number 0 bytes).0 ∷ numbers k (drop 1 (take_number 0 bytes).1)

-- Digits.

digit_is : (d : ℕ) → d < 10 → is_digit (48 + d) ≡ true
digit_is d lt = grind arith

one_digit : (so_far d : ℕ) (rest : List ℕ) → d < 10 → take_number so_far ((48 + d) ∷ rest) ≡ take_number (so_far * 10 + d) rest
unfolding take_number
one_digit so_far d rest lt = rw (digit_is d lt) (ap (λ n. take_number (so_far * 10 + n) rest) (omega arith))

pub number_then : (n : ℕ) → (rest : List ℕ) → take_number 0 (numeral n ++ rest) ≡ take_number n rest
number_then n =
    numeral_by_steps (λ m ds. (rest : List ℕ) → take_number 0 (ds ++ rest) ≡ take_number m rest)
    (λ m lt rest. one_digit 0 m rest lt ∙ ap (λ k. take_number k rest) (omega arith))
    (λ m ds le told rest.
    ap (take_number 0) (append_assoc ds ((48 + m % 10) ∷ []) rest)
    ∙ told ((48 + m % 10) ∷ rest)
    ∙ one_digit (m / 10) (m % 10) rest (omega arith)
    ∙ ap (λ k. take_number k rest) (omega arith))
    n

-- a number ends at the end
pub number_last : (n : ℕ) → take_number 0 (numeral n) ≡ (n, [])
unfolding take_number
number_last n = ap (take_number 0) (sym (append-nil (numeral n))) ∙ number_then n []

-- and at a byte that is no digit
pub number_before : (n byte : ℕ) (rest : List ℕ) → is_digit byte ≡ false → take_number 0 (numeral n ++ byte ∷ rest) ≡ (n, byte ∷ rest)
unfolding take_number
number_before n byte rest none = number_then n (byte ∷ rest) ∙ rw none refl

pub number_told : (n : ℕ) → number (numeral n) ≡ n
unfolding number
number_told n = ap (λ (p : ℕ × List ℕ). p.0) (number_last n)

pub numbers_last : (n : ℕ) → numbers 1 (numeral n) ≡ n ∷ []
unfolding numbers
numbers_last n = ap (λ (p : ℕ × List ℕ). p.0 ∷ []) (number_last n)

pub numbers_more : (k n byte : ℕ) (rest : List ℕ) → is_digit byte ≡ false → numbers (suc k) (numeral n ++ byte ∷ rest) ≡ n ∷ numbers k rest
unfolding numbers
numbers_more k n byte rest none = ap (λ (p : ℕ × List ℕ). p.0 ∷ numbers k (drop 1 p.1)) (number_before n byte rest none)

starts_before : (ds rest : List ℕ) → starts_digit ds ≡ true → starts_digit (ds ++ rest) ≡ true
starts_before [] rest starts = absurd (cc)
starts_before (d ∷ ds) rest starts = starts

pub number_starts : (n : ℕ) → starts_digit (numeral n) ≡ true
number_starts n =
    numeral_by_steps (λ m ds. starts_digit ds ≡ true) (λ m lt. digit_is m lt) (λ m ds le told. starts_before ds ((48 + m % 10) ∷ []) told) n

pub starts_with : (n : ℕ) (rest : List ℕ) → starts_digit (numeral n ++ rest) ≡ true
starts_with n rest = starts_before (numeral n) rest (number_starts n)

-- Clean words.

pub clean_both : (bs cs : List ℕ) → IsClean bs → IsClean cs → IsClean (bs ++ cs)
clean_both [] cs cb cc' = cc'
clean_both (b ∷ bs) cs cb cc' = (cb.0, cb.1, clean_both bs cs cb.2 cc')

clean_digit : (d : ℕ) → IsClean ((48 + d) ∷ [])
clean_digit d = (λ is. omega (arith, is), λ is. omega (arith, is), tt)

pub clean_numeral : (n : ℕ) → IsClean (numeral n)
clean_numeral n =
    numeral_by_steps (λ m ds. IsClean ds) (λ m lt. clean_digit m) (λ m ds le told. clean_both ds ((48 + m % 10) ∷ []) told (clean_digit (m % 10))) n
