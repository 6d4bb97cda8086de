-- Numbers and addresses as words: what is read of a word is what it spells, and what is spelled is read.
use Rattle.std.proofs.Common.{◌≡◌, ℕ, ◌+◌, ◌*◌, ◌/◌, ◌%◌, ◌<◌, ◌≤◌, ◌^◌, ◌==◌, Bool, true, false, ◌&&◌, List, [], ◌∷◌, ◌++◌, length, get_or, refl, sym, ap, subst, ◌∙◌, arith, Option, Some, None, rules}
use Rattle.std.specs.Prelude.{decimal, nat_lt, nat_le, if◌then◌else◌}
use Rattle.std.specs.List.{list_all, join_with_byte}
use Rattle.std.specs.Option.{option_and_then}
use Rattle.std.specs.Char.{is_ascii_digit}
use Rattle.std.specs.Int.{IsInRange}
use Rattle.std.specs.Str.{all_ascii_digits}
use Rattle.std.specs.Str.Parse.{digits_value, AllDigits}
use Rattle.std.proofs.lemmas.Bool.{and_parts, false≢true, ne_eqb, lt-ltb, leb-true, le-leb}
use Rattle.std.proofs.lemmas.Bool.Decides.{nat_tests}
use Rattle.std.proofs.lemmas.Fmt.{decimal-digits_value, decimal_digit, decimal_nonempty, first_decimal, length-decimal-le, digits_decimal}
use Rattle.std.proofs.lemmas.List.Splits.{join_with_byte-slice_split}
use Rattle.std.proofs.lemmas.Option.{none-some, same_Some}
use Rattle.std.proofs.lemmas.Str.{digit_value_digit}
use Rattle.std.proofs.lemmas.Str.Parse.{numerals_by_value, tells_digits, tells_all_ascii_digits}
use Rattle.net_base.specs.Addresses.{address_in, is_padded, join_bytes, number_in, octet_of, octets_joined, parts_at, read_byte, read_digits, within}
use Rattle.net_base.specs.ControlWords as control
use Rattle.net_base.specs.World.{is_within}
use Rattle.net_base.proofs.Texts.{four_parts, value_of, nested}

-- Numbers.

pub in-range : (b : ℕ) → is_ascii_digit b ≡ true → IsInRange 48 57 b
in-range b e = search (rules, e)

pub lt-true : (m n : ℕ) → nat_lt m n ≡ true → m < n
lt-true m n e = grind (arith, nat_tests)

digit-here : (b : ℕ) → is_ascii_digit b ≡ true → (48 ≤ b) × (b < 58)
digit-here b e = (grind (arith, nat_tests), grind (arith, nat_tests))

all-digits : (word : List ℕ) → list_all is_ascii_digit word ≡ true → AllDigits 10 word
all-digits [] e = tt
all-digits (b ∷ word) e =
    let both = and_parts (is_ascii_digit b) (list_all is_ascii_digit word) e in
    let value = digit_value_digit b (in-range b both.0) in
    let ends = digit-here b both.0 in
    (omega (arith, value, ends), all-digits word both.1)

-- a word that isn't padded spells its number
spells-decimal : (word : List ℕ) → list_all is_ascii_digit word ≡ true → 0 < length word → is_padded word ≡ false → digits_value 10 word < 2 ^ 64 → word ≡ decimal (digits_value 10 word)
spells-decimal word all some plain small =
    sym (decimal-digits_value (numerals_by_value (AllDigits 10) tells_digits) word (all-digits word all) some (one-zero word plain) small)
  where
    one-zero : (w : List ℕ) → is_padded w ≡ false → get_or w 0 0 ≡ 48 → length w ≡ 1
    one-zero [] e h = absurd (omega (arith, h))
    one-zero (b ∷ []) e h = omega arith
    one-zero (b ∷ c ∷ w) e h = absurd (false≢true (sym e ∙ ap (λ (x : ℕ). x == 48) h))

-- the number of a word within bounds, which is spelled so
pub record Spelled (word : List ℕ) (greatest n : ℕ) : Type 0 where
  pub is : word ≡ decimal n
  pub within : n ≤ greatest

number-spelled : (most least greatest : ℕ) (word : List ℕ) (n : ℕ) → greatest < 2 ^ 64 → is_padded word ≡ false → option_and_then (within least greatest) (read_digits most word) ≡ Some n → Spelled word greatest n
number-spelled most least greatest word n fits plain e =
    by (nat_lt 0 (length word)) (nat_le (length word) most) (list_all is_ascii_digit word) refl refl refl e
  where
    last : list_all is_ascii_digit word ≡ true → nat_lt 0 (length word) ≡ true → (b c : Bool) → nat_le least (digits_value 10 word) ≡ b → nat_le (digits_value 10 word) greatest ≡ c
        → (if b && c then Some (digits_value 10 word) else None) ≡ Some n → Spelled word greatest n
    last all some true true low high f =
        let is = same_Some (digits_value 10 word) n f in
        let bound = leb-true (digits_value 10 word) greatest high in
        record {
          is = spells-decimal word all (lt-true 0 (length word) some) plain (omega (arith, bound, fits)) ∙ ap (λ (k : ℕ). decimal k) is;
          within = omega (arith, bound, is);
        }
    last all some true false low high f = absurd (none-some n f)
    last all some false c low high f = absurd (none-some n f)

    by : (a b c : Bool) → nat_lt 0 (length word) ≡ a → nat_le (length word) most ≡ b → list_all is_ascii_digit word ≡ c
        → option_and_then (within least greatest) (if (a && b) && c then Some (digits_value 10 word) else None) ≡ Some n → Spelled word greatest n
    by true true true some few all f = last all some (nat_le least (digits_value 10 word)) (nat_le (digits_value 10 word) greatest) refl refl f
    by true true false some few all f = absurd (none-some n f)
    by true false c some few all f = absurd (none-some n f)
    by false b c some few all f = absurd (none-some n f)

pub number_in-spelled : (least greatest : ℕ) (word : List ℕ) (n : ℕ) → greatest < 2 ^ 64 → number_in least greatest word ≡ Some n → Spelled word greatest n
number_in-spelled least greatest word n fits e = by (is_padded word) refl e
  where
    by : (b : Bool) → is_padded word ≡ b → (if b then None else option_and_then (within least greatest) (read_digits 20 word)) ≡ Some n → Spelled word greatest n
    by true p f = absurd (none-some n f)
    by false p f = number-spelled 20 least greatest word n fits p f

pub octet-spelled : (word : List ℕ) (n : ℕ) → octet_of word ≡ Some n → Spelled word 255 n
octet-spelled word n e = by (is_padded word) refl e
  where
    by : (b : Bool) → is_padded word ≡ b → (if b then None else option_and_then (within 0 255) (read_digits 3 word)) ≡ Some n → Spelled word 255 n
    by true p f = absurd (none-some n f)
    by false p f = number-spelled 3 0 255 word n (omega arith) p f

-- Addresses.

abbrev four_text : List ℕ → List ℕ → List ℕ → List ℕ → List ℕ
four_text a b c d = a ++ (46 ∷ (b ++ (46 ∷ (c ++ (46 ∷ d)))))

pub record Dotted (text : List ℕ) (ip : ℕ) : Type 0 where
  pub is : text ≡ control.dotted ip
  pub fits : ip < 2 ^ 32

octets-dotted : (a b c d : List ℕ) (o p q r : Option ℕ) (ip : ℕ) → ((n : ℕ) → o ≡ Some n → Spelled a 255 n) → ((n : ℕ) → p ≡ Some n → Spelled b 255 n) → ((n : ℕ) → q ≡ Some n → Spelled c 255 n) → ((n : ℕ) → r ≡ Some n → Spelled d 255 n)
    → join_bytes o p q r ≡ Some ip → Dotted (four_text a b c d) ip
octets-dotted a b c d (Some w) (Some x) (Some y) (Some z) ip fa fb fc fd e =
    let sa = fa w refl in let sb = fb x refl in let sc = fc y refl in let sd = fd z refl in
    let is = same_Some (((w * 256 + x) * 256 + y) * 256 + z) ip e in
    let la = sa.within in let lb = sb.within in let lc = sc.within in let ld = sd.within in
    let ew : ip / 2 ^ 24 ≡ w = omega (arith, is, la, lb, lc, ld) in
    let ex : ip / 2 ^ 16 % 256 ≡ x = omega (arith, is, la, lb, lc, ld) in
    let ey : ip / 2 ^ 8 % 256 ≡ y = omega (arith, is, la, lb, lc, ld) in
    let ez : ip % 256 ≡ z = omega (arith, is, la, lb, lc, ld) in
    record {
      is = ap (λ (t : List ℕ). four_text t b c d) (sa.is ∙ ap (λ (n : ℕ). decimal n) (sym ew))
          ∙ (ap (λ (t : List ℕ). four_text (decimal (ip / 2 ^ 24)) t c d) (sb.is ∙ ap (λ (n : ℕ). decimal n) (sym ex))
          ∙ (ap (λ (t : List ℕ). four_text (decimal (ip / 2 ^ 24)) (decimal (ip / 2 ^ 16 % 256)) t d) (sc.is ∙ ap (λ (n : ℕ). decimal n) (sym ey))
          ∙ (ap (λ (t : List ℕ). four_text (decimal (ip / 2 ^ 24)) (decimal (ip / 2 ^ 16 % 256)) (decimal (ip / 2 ^ 8 % 256)) t) (sd.is ∙ ap (λ (n : ℕ). decimal n) (sym ez))
          ∙ sym (nested (ip / 2 ^ 24) (ip / 2 ^ 16 % 256) (ip / 2 ^ 8 % 256) (ip % 256)))));
      fits = omega (arith, is, la, lb, lc, ld);
    }
octets-dotted a b c d (Some w) (Some x) (Some y) None ip fa fb fc fd e = absurd (none-some ip e)
octets-dotted a b c d (Some w) (Some x) None r ip fa fb fc fd e = absurd (none-some ip e)
octets-dotted a b c d (Some w) None q r ip fa fb fc fd e = absurd (none-some ip e)
octets-dotted a b c d None p q r ip fa fb fc fd e = absurd (none-some ip e)

words-dotted : (words : List (List ℕ)) (text : List ℕ) (ip : ℕ) → join_with_byte 46 words ≡ text → octets_joined words ≡ Some ip → Dotted text ip
words-dotted (a ∷ b ∷ c ∷ d ∷ []) text ip j e =
    subst (λ (t : List ℕ). Dotted t ip) j (octets-dotted a b c d (octet_of a) (octet_of b) (octet_of c) (octet_of d) ip (octet-spelled a) (octet-spelled b) (octet-spelled c) (octet-spelled d) e)
words-dotted [] text ip j e = absurd (none-some ip e)
words-dotted (a ∷ []) text ip j e = absurd (none-some ip e)
words-dotted (a ∷ b ∷ []) text ip j e = absurd (none-some ip e)
words-dotted (a ∷ b ∷ c ∷ []) text ip j e = absurd (none-some ip e)
words-dotted (a ∷ b ∷ c ∷ d ∷ f ∷ words) text ip j e = absurd (none-some ip e)

pub address-dotted : (word : List ℕ) (ip : ℕ) → address_in word ≡ Some ip → Dotted word ip
address-dotted word ip e = words-dotted (parts_at 46 word) word ip (join_with_byte-slice_split 46 word) e

-- From the number to its word, and back.

plain-word : (word : List ℕ) → 48 < get_or word 0 0 → is_padded word ≡ false
plain-word [] h = refl
plain-word (b ∷ []) h = refl
plain-word (b ∷ c ∷ word) h = ne_eqb b 48 (λ is. omega (arith, is, h))

unpadded : (n : ℕ) → n < 2 ^ 64 → is_padded (decimal n) ≡ false
unpadded n small = by (nat_lt 0 n) refl
  where
    by : (b : Bool) → nat_lt 0 n ≡ b → is_padded (decimal n) ≡ false
    by true some = plain-word (decimal n) (first_decimal n (lt-true 0 n some) small)
    by false none = ap is_padded (decimal_digit n (grind (arith, nat_tests)))

ascii-digits : (word : List ℕ) → all_ascii_digits word ≡ list_all is_ascii_digit word
ascii-digits [] = refl
ascii-digits (b ∷ word) = ap (λ v. is_ascii_digit b && v) (ascii-digits word)

digits-of : (n : ℕ) → n < 2 ^ 64 → list_all is_ascii_digit (decimal n) ≡ true
digits-of n small = sym (ascii-digits (decimal n)) ∙ digits_decimal (numerals_by_value (λ ds. all_ascii_digits ds ≡ true) tells_all_ascii_digits) n small

read-back : (most n : ℕ) → 0 < most → n < 10 ^ most → n < 2 ^ 64 → read_digits most (decimal n) ≡ Some n
read-back most n some few small =
    ap (λ v. if (v && nat_le (length (decimal n)) most) && list_all is_ascii_digit (decimal n) then Some (digits_value 10 (decimal n)) else None) (lt-ltb 0 (length (decimal n)) (decimal_nonempty n small))
    ∙ (ap (λ v. if v && list_all is_ascii_digit (decimal n) then Some (digits_value 10 (decimal n)) else None) (le-leb (length (decimal n)) most (length-decimal-le most n some few small))
    ∙ (ap (λ v. if v then Some (digits_value 10 (decimal n)) else None) (digits-of n small) ∙ ap (λ (k : ℕ). Some k) (value_of n small)))

within-back : (least greatest n : ℕ) → is_within least greatest n ≡ true → within least greatest n ≡ Some n
within-back least greatest n e = ap (λ v. if v then Some n else None) e

pub within-is : (least greatest n : ℕ) → least ≤ n → n ≤ greatest → is_within least greatest n ≡ true
within-is least greatest n low high = ap (λ b. b && nat_le n greatest) (le-leb least n low) ∙ le-leb n greatest high

-- a number within bounds is read from its decimal word
pub number-back : (least greatest n : ℕ) → greatest < 2 ^ 64 → is_within least greatest n ≡ true → number_in least greatest (decimal n) ≡ Some n
number-back least greatest n fits e =
    let high = leb-true n greatest ((and_parts (nat_le least n) (nat_le n greatest) e).1) in
    let small : n < 2 ^ 64 = omega (arith, high, fits) in
    ap (λ v. if v then None else option_and_then (within least greatest) (read_digits 20 (decimal n))) (unpadded n small)
    ∙ (ap (option_and_then (within least greatest)) (read-back 20 n (omega arith) (omega (arith, small)) small) ∙ within-back least greatest n e)

octet-back : (n : ℕ) → n < 256 → octet_of (decimal n) ≡ Some n
octet-back n small =
    ap (λ v. if v then None else read_byte (decimal n)) (unpadded n (omega (arith, small)))
    ∙ (ap (option_and_then (within 0 255)) (read-back 3 n (omega arith) (omega (arith, small)) (omega (arith, small))) ∙ within-back 0 255 n (within-is 0 255 n (omega arith) (omega (arith, small))))

-- an address is read from its four numbers
pub address-back : (ip : ℕ) → ip < 2 ^ 32 → address_in (control.dotted ip) ≡ Some ip
address-back ip small =
    let a : ip / 2 ^ 24 < 256 = omega (arith, small) in
    let b : ip / 2 ^ 16 % 256 < 256 = omega arith in
    let c : ip / 2 ^ 8 % 256 < 256 = omega arith in
    let d : ip % 256 < 256 = omega arith in
    ap octets_joined (four_parts (ip / 2 ^ 24) (ip / 2 ^ 16 % 256) (ip / 2 ^ 8 % 256) (ip % 256) a b c d)
    ∙ (ap (λ o. join_bytes o (octet_of (decimal (ip / 2 ^ 16 % 256))) (octet_of (decimal (ip / 2 ^ 8 % 256))) (octet_of (decimal (ip % 256)))) (octet-back (ip / 2 ^ 24) a)
    ∙ (ap (λ o. join_bytes (Some (ip / 2 ^ 24)) o (octet_of (decimal (ip / 2 ^ 8 % 256))) (octet_of (decimal (ip % 256)))) (octet-back (ip / 2 ^ 16 % 256) b)
    ∙ (ap (λ o. join_bytes (Some (ip / 2 ^ 24)) (Some (ip / 2 ^ 16 % 256)) o (octet_of (decimal (ip % 256)))) (octet-back (ip / 2 ^ 8 % 256) c)
    ∙ (ap (λ o. join_bytes (Some (ip / 2 ^ 24)) (Some (ip / 2 ^ 16 % 256)) (Some (ip / 2 ^ 8 % 256)) o) (octet-back (ip % 256) d)
    ∙ ap (λ (n : ℕ). Some n) (omega arith)))))
