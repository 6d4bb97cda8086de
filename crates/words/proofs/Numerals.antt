-- Numbers in decimal, a digit more at a time.
use Rattle.std.proofs.Common.{◌≡◌, ℕ, zero, suc, ◌+◌, ◌/◌, ◌%◌, ◌^◌, ◌<◌, ◌≤◌, ◌⊎◌, inl, inr, List, [], ◌∷◌, ◌++◌, map, refl, sym, ◌∙◌, ap, subst, append_assoc, arith, decimal}
use Rattle.std.specs.Int.Digits.{digits_of}
use Rattle.std.proofs.lemmas.Bool.{cases_lt}
use Rattle.std.proofs.lemmas.Fmt.{decimal_by_steps_wide}
use Rattle.std.proofs.lemmas.Int.Digits.{digits_of_step}
use Rattle.std.proofs.lemmas.List.{map_push}
use Rattle.net_base.specs.Addresses.{address_text}
use Rattle.net_base.specs.Numeral.{numeral}
use Rattle.net_base.specs.Transcript.{ip_word}
use Rattle.words.specs.Digits.{four_digits}

abbrev shown : List ℕ → List ℕ
shown digits = map (λ digit. 48 + digit) digits

pub numeral_is : (n : ℕ) → 0 < n → numeral n ≡ shown (digits_of 10 n)
unfolding numeral
numeral_is zero some = absurd (omega (arith, some))
numeral_is (suc n) some = refl

-- one digit
pub numeral_one : (n : ℕ) → n < 10 → numeral n ≡ (48 + n) ∷ []
unfolding numeral
numeral_one zero lt = refl
numeral_one (suc n) lt =
    let none : suc n / 10 ≡ 0 = omega (arith, lt) in
    let all : suc n % 10 ≡ suc n = omega (arith, lt) in
    ap shown (digits_of_step 10 (suc n) (omega arith) (omega arith))
    ∙ ap (λ k. shown (digits_of 10 k ++ (suc n % 10) ∷ [])) none
    ∙ ap (λ digit. (48 + digit) ∷ []) all

-- one digit more
numeral_more : (n : ℕ) → 10 ≤ n → numeral n ≡ numeral (n / 10) ++ ((48 + n % 10) ∷ [])
numeral_more n ten =
    numeral_is n (omega (arith, ten))
    ∙ ap shown (digits_of_step 10 n (omega arith) (omega (arith, ten)))
    ∙ map_push (λ digit. 48 + digit) (digits_of 10 (n / 10)) (n % 10)
    ∙ ap (λ digits. digits ++ ((48 + n % 10) ∷ [])) (sym (numeral_is (n / 10) (omega (arith, ten))))

-- two digits
pub numeral_two : (n : ℕ) → 10 ≤ n → n < 100 → numeral n ≡ (48 + n / 10) ∷ (48 + n % 10) ∷ []
numeral_two n ten lt = numeral_more n ten ∙ ap (λ digits. digits ++ ((48 + n % 10) ∷ [])) (numeral_one (n / 10) (omega (arith, lt)))

-- two digits more
numeral_two_more : (n : ℕ) → 100 ≤ n → numeral n ≡ numeral (n / 100) ++ (48 + n % 100 / 10) ∷ (48 + n % 100 % 10) ∷ []
numeral_two_more n hundred =
    let front : n / 10 / 10 ≡ n / 100 = omega arith in
    let middle : n / 10 % 10 ≡ n % 100 / 10 = omega arith in
    let last : n % 10 ≡ n % 100 % 10 = omega arith in
    numeral_more n (omega (arith, hundred))
    ∙ ap (λ digits. digits ++ ((48 + n % 10) ∷ [])) (numeral_more (n / 10) (omega (arith, hundred)))
    ∙ append_assoc (numeral (n / 10 / 10)) ((48 + n / 10 % 10) ∷ []) ((48 + n % 10) ∷ [])
    ∙ ap (λ k. numeral k ++ (48 + n / 10 % 10) ∷ (48 + n % 10) ∷ []) front
    ∙ ap (λ digit. numeral (n / 100) ++ (48 + digit) ∷ (48 + n % 10) ∷ []) middle
    ∙ ap (λ digit. numeral (n / 100) ++ (48 + n % 100 / 10) ∷ (48 + digit) ∷ []) last

-- three digits
pub numeral_three : (n : ℕ) → 100 ≤ n → n < 1000 → numeral n ≡ (48 + n / 100) ∷ (48 + n % 100 / 10) ∷ (48 + n % 100 % 10) ∷ []
numeral_three n hundred lt =
    numeral_two_more n hundred
    ∙ ap (λ digits. digits ++ (48 + n % 100 / 10) ∷ (48 + n % 100 % 10) ∷ []) (numeral_one (n / 100) (omega (arith, lt)))

-- four digits
pub numeral_four : (n : ℕ) → 1000 ≤ n → n < 10000 → numeral n ≡ four_digits n
numeral_four n thousand lt =
    numeral_two_more n (omega (arith, thousand))
    ∙ ap (λ digits. digits ++ (48 + n % 100 / 10) ∷ (48 + n % 100 % 10) ∷ []) (numeral_two (n / 100) (omega (arith, thousand)) (omega (arith, lt)))

-- four digits more
numeral_four_more : (n : ℕ) → 10000 ≤ n → numeral n ≡ numeral (n / 10000) ++ four_digits (n % 10000)
numeral_four_more n le =
    let front : n / 100 / 100 ≡ n / 10000 = omega arith in
    let high : n / 100 % 100 ≡ n % 10000 / 100 = omega arith in
    let low : n % 100 ≡ n % 10000 % 100 = omega arith in
    numeral_two_more n (omega (arith, le))
    ∙ ap (λ digits. digits ++ (48 + n % 100 / 10) ∷ (48 + n % 100 % 10) ∷ []) (numeral_two_more (n / 100) (omega (arith, le)))
    ∙ append_assoc (numeral (n / 100 / 100)) ((48 + n / 100 % 100 / 10) ∷ (48 + n / 100 % 100 % 10) ∷ []) ((48 + n % 100 / 10) ∷ (48 + n % 100 % 10) ∷ [])
    ∙ ap (λ k. numeral k ++ (48 + n / 100 % 100 / 10) ∷ (48 + n / 100 % 100 % 10) ∷ (48 + n % 100 / 10) ∷ (48 + n % 100 % 10) ∷ []) front
    ∙ ap (λ k. numeral (n / 10000) ++ (48 + k / 10) ∷ (48 + k % 10) ∷ (48 + n % 100 / 10) ∷ (48 + n % 100 % 10) ∷ []) high
    ∙ ap (λ k. numeral (n / 10000) ++ (48 + n % 10000 / 100 / 10) ∷ (48 + n % 10000 / 100 % 10) ∷ (48 + k / 10) ∷ (48 + k % 10) ∷ []) low

-- they are put after the others
pub four_more : (n : ℕ) (out front new : List ℕ) → 10000 ≤ n → front ≡ out ++ numeral (n / 10000)
    → new ≡ front ++ four_digits (n % 10000) → new ≡ out ++ numeral n
four_more n out front new le before is =
    is
    ∙ ap (λ digits. digits ++ four_digits (n % 10000)) before
    ∙ append_assoc out (numeral (n / 10000)) (four_digits (n % 10000))
    ∙ ap (λ digits. out ++ digits) (sym (numeral_four_more n le))

-- what holds of one digit, and of a digit more, holds of all numbers
module _ (P : ℕ → List ℕ → Type 0) (one : (n : ℕ) → n < 10 → P n ((48 + n) ∷ [])) (more : (n : ℕ) (digits : List ℕ) → 10 ≤ n → P (n / 10) digits → P n (digits ++ ((48 + n % 10) ∷ []))) where
  step : (n : ℕ) → ((n < 10) ⊎ (10 ≤ n)) → (10 ≤ n → P (n / 10) (numeral (n / 10))) → P n (numeral n)
  step n (inl lt) front = subst (P n) (sym (numeral_one n lt)) (one n lt)
  step n (inr ten) front = subst (P n) (sym (numeral_more n ten)) (more n (numeral (n / 10)) ten (front ten))

  up_to : (turns n : ℕ) → n ≤ turns → P n (numeral n)
  up_to zero n le = step n (cases_lt n 10) (λ ten. absurd (omega (arith, ten, le)))
  up_to (suc turns) n le = step n (cases_lt n 10) (λ ten. up_to turns (n / 10) (omega (arith, ten, le)))

  pub numeral_by_steps : (n : ℕ) → P n (numeral n)
  numeral_by_steps n = up_to n n (omega arith)

-- std's decimal is the same below its bound
pub decimal_is_numeral : (n : ℕ) → n < 10 ^ 64 → decimal n ≡ numeral n
decimal_is_numeral n small =
    decimal_by_steps_wide (λ m digits. digits ≡ numeral m) (λ m lt. sym (numeral_one m lt)) (λ m digits ten told. ap (λ ds. ds ++ ((48 + m % 10) ∷ [])) told ∙ sym (numeral_more m ten)) n small

-- an address is written the same by both
pub addresses_alike : (ip : ℕ) → ip < 2 ^ 32 → ip_word ip ≡ address_text ip
addresses_alike ip lt =
    rw (
      sym (decimal_is_numeral (ip / 2 ^ 24) (omega (arith, lt))),
      sym (decimal_is_numeral (ip / 2 ^ 16 % 256) (omega arith)),
      sym (decimal_is_numeral (ip / 2 ^ 8 % 256) (omega arith)),
      sym (decimal_is_numeral (ip % 256) (omega arith)),
    ) refl
