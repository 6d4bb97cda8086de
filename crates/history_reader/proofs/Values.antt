-- Numbers of any length.
use Rattle.std.proofs.Common.{◌≡◌, ℕ, zero, suc, ◌+◌, ◌-◌, ◌*◌, ◌/◌, ◌%◌, ◌<◌, ◌≤◌, ◌==◌, Bool, true, false, ◌&&◌, not, List, [], ◌∷◌, ◌++◌, length, map, refl, sym, ap, ◌∙◌, arith, append_assoc, append-nil, rules}
use Rattle.std.specs.Prelude.{nat_lt}
use Rattle.std.specs.Char.{is_ascii_digit}
use Rattle.std.specs.Int.Digits.{digits_of}
use Rattle.std.specs.List.{list_all}
use Rattle.std.proofs.lemmas.Bool.{and_parts, false≢true, ne_eqb, not-true}
use Rattle.std.proofs.lemmas.Bool.Decides.{nat_tests}
use Rattle.std.proofs.lemmas.Int.Digits.{digits_of_step}
use Rattle.std.proofs.lemmas.List.{map_push}
use Rattle.net_base.specs.Addresses.{is_padded}
use Rattle.net_base.specs.Numeral.{numeral}
use Rattle.history_reader.specs.LineReading.{is_numeral}
use Rattle.words.proofs.Shared.{numeral_by_steps, numeral_one}
use Rattle.net_base.proofs.Shared.{in-range}

-- the number that goes on with these digits
pub value : ℕ → List ℕ → ℕ
value so_far [] = so_far
value so_far (b ∷ word) = value (so_far * 10 + (b - 48)) word

-- From the number.

value_more : (ds : List ℕ) (so_far d : ℕ) → value so_far (ds ++ (48 + d) ∷ []) ≡ value so_far ds * 10 + d
unfolding value
value_more [] so_far d = omega arith
value_more (b ∷ ds) so_far d = value_more ds (so_far * 10 + (b - 48)) d

pub value_told : (n : ℕ) → value 0 (numeral n) ≡ n
unfolding value
value_told n =
    numeral_by_steps (λ m ds. value 0 ds ≡ m) (λ m lt. omega arith)
    (λ m ds ten told. value_more ds 0 (m % 10) ∙ ap (λ k. k * 10 + m % 10) told ∙ omega arith) n

-- different numbers have different digits
pub same_numeral : (m n : ℕ) → numeral m ≡ numeral n → m ≡ n
same_numeral m n e = sym (value_told m) ∙ ap (value 0) e ∙ value_told n

-- a number's word is one

digit_is : (d : ℕ) → d < 10 → is_ascii_digit (48 + d) ≡ true
digit_is d lt = search (rules, lt)

digits_both : (xs ys : List ℕ) → list_all is_ascii_digit xs ≡ true → list_all is_ascii_digit ys ≡ true → list_all is_ascii_digit (xs ++ ys) ≡ true
digits_both [] ys dx dy = dy
digits_both (x ∷ xs) ys dx dy =
    let both = and_parts (is_ascii_digit x) (list_all is_ascii_digit xs) dx in
    rw both.0 (digits_both xs ys both.1 dy)

one_digit : (d : ℕ) → d < 10 → list_all is_ascii_digit ((48 + d) ∷ []) ≡ true
one_digit d lt = rw (digit_is d lt) refl

numeral_digits : (n : ℕ) → list_all is_ascii_digit (numeral n) ≡ true
numeral_digits n =
    numeral_by_steps (λ m ds. list_all is_ascii_digit ds ≡ true) (λ m lt. one_digit m lt)
    (λ m ds ten told. digits_both ds ((48 + m % 10) ∷ []) told (one_digit (m % 10) (omega arith))) n

-- its first digit isn't 0, but for 0 alone
abbrev Leads : ℕ → List ℕ → Type 0
Leads n [] = ⊥
Leads n (b ∷ word) = (0 < n → 48 < b) × (n < 10 → length word ≡ 0)

leads_more : (n : ℕ) (ds : List ℕ) (d : ℕ) → 10 ≤ n → Leads (n / 10) ds → Leads n (ds ++ (48 + d) ∷ [])
leads_more n [] d ten leads = absurd leads
leads_more n (b ∷ ds) d ten leads = (λ some. leads.0 (omega (arith, ten)), λ few. absurd (omega (arith, ten, few)))

numeral_leads : (n : ℕ) → Leads n (numeral n)
numeral_leads n =
    numeral_by_steps (λ m ds. Leads m ds) (λ m lt. (λ some. omega (arith, some), λ few. refl)) (λ m ds ten told. leads_more m ds (m % 10) ten told) n

small : (n : ℕ) → nat_lt 0 n ≡ false → n < 10
small n e = grind (arith, nat_tests, e)

some_is : (n : ℕ) → nat_lt 0 n ≡ true → 0 < n
some_is n e = grind (arith, nat_tests, e)

leads_plain : (n : ℕ) (word : List ℕ) → Leads n word → is_padded word ≡ false
leads_plain n [] leads = refl
leads_plain n (b ∷ []) leads = refl
leads_plain n (b ∷ c ∷ word) leads = ne_eqb b 48 (λ is. absurd (by (nat_lt 0 n) refl is))
  where
    first : 0 < n → b ≡ 48 → ⊥
    first some is = let high = leads.0 some in omega (arith, high, is)

    alone : nat_lt 0 n ≡ false → ⊥
    alone none = let one = leads.1 (small n none) in absurd (omega (arith, one))

    by : (v : Bool) → nat_lt 0 n ≡ v → b ≡ 48 → ⊥
    by true some is = first (some_is n some) is
    by false none is = alone none

leads_some : (n : ℕ) (word : List ℕ) → Leads n word → nat_lt 0 (length word) ≡ true
leads_some n [] leads = absurd leads
leads_some n (b ∷ word) leads = grind (arith, nat_tests)

pub numeral_is : (n : ℕ) → is_numeral (numeral n) ≡ true
numeral_is n = rw (leads_some n (numeral n) (numeral_leads n), leads_plain n (numeral n) (numeral_leads n)) (numeral_digits n)

-- From the word.

abbrev shown : List ℕ → List ℕ
shown digits = map (λ digit. 48 + digit) digits

numeral_of : (n : ℕ) → 0 < n → numeral n ≡ shown (digits_of 10 n)
unfolding numeral
numeral_of zero some = absurd (omega (arith, some))
numeral_of (suc n) some = refl

numeral_more : (n : ℕ) → 10 ≤ n → numeral n ≡ numeral (n / 10) ++ (48 + n % 10) ∷ []
numeral_more n ten =
    numeral_of n (omega (arith, ten))
    ∙ ap shown (digits_of_step 10 n (omega arith) (omega (arith, ten)))
    ∙ map_push (λ digit. 48 + digit) (digits_of 10 (n / 10)) (n % 10)
    ∙ ap (λ digits. digits ++ (48 + n % 10) ∷ []) (sym (numeral_of (n / 10) (omega (arith, ten))))

-- a digit more behind a number that isn't 0
digit_behind : (n d : ℕ) → 0 < n → d < 10 → numeral n ++ (48 + d) ∷ [] ≡ numeral (n * 10 + d)
digit_behind n d some lt =
    let up : (n * 10 + d) / 10 ≡ n = omega (arith, lt) in
    let down : (n * 10 + d) % 10 ≡ d = omega (arith, lt) in
    ap (λ k. numeral k ++ (48 + d) ∷ []) (sym up) ∙ ap (λ k. numeral ((n * 10 + d) / 10) ++ (48 + k) ∷ []) (sym down) ∙ sym (numeral_more (n * 10 + d) (omega (arith, some)))

digit_here : (b : ℕ) → is_ascii_digit b ≡ true → (48 + (b - 48) ≡ b) × (b - 48 < 10)
digit_here b e = let r = in-range b e in (omega (arith, r.0, r.1), omega (arith, r.0, r.1))

spelled_on : (so_far : ℕ) (word : List ℕ) → 0 < so_far → list_all is_ascii_digit word ≡ true → numeral so_far ++ word ≡ numeral (value so_far word)
unfolding value
spelled_on so_far [] some all = append-nil (numeral so_far)
spelled_on so_far (b ∷ word) some all =
    let both = and_parts (is_ascii_digit b) (list_all is_ascii_digit word) all in
    let here = digit_here b both.0 in
    sym (append_assoc (numeral so_far) (b ∷ []) word)
    ∙ ap (λ c. (numeral so_far ++ c ∷ []) ++ word) (sym here.0)
    ∙ ap (λ ws. ws ++ word) (digit_behind so_far (b - 48) some here.1)
    ∙ spelled_on (so_far * 10 + (b - 48)) word (omega (arith, some)) both.1

not_zero : (b : ℕ) → (b == 48) ≡ false → 48 + (b - 48) ≡ b → 0 < b - 48
not_zero b e is = grind (arith, nat_tests, e, is)

word_spelled : (word : List ℕ) → nat_lt 0 (length word) ≡ true → is_padded word ≡ false → list_all is_ascii_digit word ≡ true → word ≡ numeral (value 0 word)
unfolding value
word_spelled [] some plain all = absurd (false≢true some)
word_spelled (b ∷ []) some plain all =
    let both = and_parts (is_ascii_digit b) true all in
    let here = digit_here b both.0 in
    ap (λ c. c ∷ []) (sym here.0) ∙ sym (numeral_one (b - 48) here.1) ∙ ap (λ k. numeral k) (omega arith)
word_spelled (b ∷ c ∷ word) some plain all =
    let both = and_parts (is_ascii_digit b) (list_all is_ascii_digit (c ∷ word)) all in
    let here = digit_here b both.0 in
    let more : 0 < b - 48 = not_zero b plain here.0 in
    ap (λ d. d ∷ c ∷ word) (sym here.0)
    ∙ ap (λ ws. ws ++ c ∷ word) (sym (numeral_one (b - 48) here.1))
    ∙ spelled_on (b - 48) (c ∷ word) more both.1
    ∙ ap (λ k. numeral (value k (c ∷ word))) (omega arith)

pub numeral_spelled : (word : List ℕ) → is_numeral word ≡ true → word ≡ numeral (value 0 word)
numeral_spelled word e =
    let front = and_parts (nat_lt 0 (length word) && not (is_padded word)) (list_all is_ascii_digit word) e in
    let both = and_parts (nat_lt 0 (length word)) (not (is_padded word)) front.0 in
    word_spelled word both.0 (not-true (is_padded word) both.1) front.1
