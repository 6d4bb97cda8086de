-- Texts that a page may have.
use Rattle.std.proofs.Common.{◌≡◌, ℕ, ◌+◌, ◌/◌, ◌%◌, ◌<◌, Bool, true, false, ◌&&◌, List, [], ◌∷◌, ◌++◌, refl, sym, ap, subst, ◌∙◌, arith}
use Rattle.std.specs.Prelude.{flat_map, if◌then◌else◌}
use Rattle.std.specs.List.{list_all}
use Rattle.std.proofs.lemmas.Bool.{false≢true}
use Rattle.std.proofs.lemmas.Bool.Decides.{nat_tests}
use Rattle.std.proofs.lemmas.List.Folds.{list_all-append}
use Rattle.net_base.specs.Hexadecimal.{hex_digit, hex_digits}
use Rattle.net_base.specs.Numeral.{numeral}
use Rattle.words.proofs.Shared.{numeral_by_steps}
use Rattle.page_payload.specs.Encoding.{encoded, encoded_byte, ends_line, is_kept}
use Rattle.page_payload.specs.PlainText.{AreBytes, IsPlain, is_byte, is_page_byte}

both_true : (a b : Bool) → a ≡ true → b ≡ true → (a && b) ≡ true
both_true a b e f = ap (λ (v : Bool). v && b) e ∙ f

pub plain_both : (xs ys : List ℕ) → IsPlain xs → IsPlain ys → IsPlain (xs ++ ys)
plain_both xs ys p q = list_all-append is_page_byte xs ys ∙ both_true (list_all is_page_byte xs) (list_all is_page_byte ys) p q

pub plain_one : (b : ℕ) (bs : List ℕ) → is_page_byte b ≡ true → IsPlain bs → IsPlain (b ∷ bs)
plain_one b bs p q = both_true (is_page_byte b) (list_all is_page_byte bs) p q

pub plain_all : {A : Type 0} (f : A → List ℕ) (xs : List A) → ((x : A) → IsPlain (f x)) → IsPlain (flat_map f xs)
plain_all f [] each = refl
plain_all f (x ∷ xs) each = plain_both (f x) (flat_map f xs) (each x) (plain_all f xs each)

-- Numbers.

digit_plain : (d : ℕ) → d < 10 → is_page_byte (48 + d) ≡ true
digit_plain d lt = grind (arith, nat_tests)

pub plain_numeral : (n : ℕ) → IsPlain (numeral n)
plain_numeral n =
    numeral_by_steps (λ m ds. IsPlain ds) (λ m lt. plain_one (48 + m) [] (digit_plain m lt) refl)
    (λ m ds le told. plain_both ds ((48 + m % 10) ∷ []) told (plain_one (48 + m % 10) [] (digit_plain (m % 10) (omega arith)) refl)) n

-- Inputs.

hex_plain : (n : ℕ) → n < 16 → is_page_byte (hex_digit n) ≡ true
hex_plain n lt = grind (arith, nat_tests)

kept_plain : (b : ℕ) → is_kept b ≡ true → is_page_byte b ≡ true
kept_plain b kept = grind (arith, nat_tests)

byte_plain : (b : ℕ) → is_byte b ≡ true → IsPlain (encoded_byte b)
byte_plain b is = by (is_kept b) refl
  where
    small : b < 256
    small = grind (arith, nat_tests)

    by : (v : Bool) → is_kept b ≡ v → IsPlain (if is_kept b then b ∷ [] else 92 ∷ hex_digits (b ∷ []))
    by true e = subst (λ (v : Bool). IsPlain (if v then b ∷ [] else 92 ∷ hex_digits (b ∷ []))) (sym e) (plain_one b [] (kept_plain b e) refl)
    by false e =
        subst (λ (v : Bool). IsPlain (if v then b ∷ [] else 92 ∷ hex_digits (b ∷ []))) (sym e)
        (plain_one 92 (hex_digits (b ∷ [])) refl
        (plain_one (hex_digit (b / 16)) (hex_digit (b % 16) ∷ []) (hex_plain (b / 16) (omega (arith, small)))
        (plain_one (hex_digit (b % 16)) [] (hex_plain (b % 16) (omega arith)) refl)))

first_true : (a b : Bool) → (a && b) ≡ true → a ≡ true
first_true true b e = refl
first_true false b e = absurd (false≢true e)

rest_true : (a b : Bool) → (a && b) ≡ true → b ≡ true
rest_true true b e = e
rest_true false b e = absurd (false≢true e)

bytes_plain : (input : List ℕ) → AreBytes input → IsPlain (flat_map encoded_byte input)
bytes_plain [] are = refl
bytes_plain (b ∷ bs) are =
    plain_both (encoded_byte b) (flat_map encoded_byte bs) (byte_plain b (first_true (is_byte b) (list_all is_byte bs) are))
    (bytes_plain bs (rest_true (is_byte b) (list_all is_byte bs) are))

closing_plain : (ended : Bool) → IsPlain (if ended then [] else 92 ∷ 10 ∷ [])
closing_plain true = refl
closing_plain false = refl

pub input_plain : (input : List ℕ) → AreBytes input → IsPlain (encoded input)
input_plain input are =
    plain_both (flat_map encoded_byte input) (if ends_line true input then [] else 92 ∷ 10 ∷ []) (bytes_plain input are) (closing_plain (ends_line true input))
