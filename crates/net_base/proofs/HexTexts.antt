-- Bytes in hexadecimal: what is read of a word is what it spells, and what is spelled is read.
use Rattle.std.proofs.Common.{◌≡◌, ℕ, ◌+◌, ◌-◌, ◌*◌, ◌/◌, ◌%◌, ◌<◌, ◌==◌, Bool, true, false, ◌&&◌, List, [], ◌∷◌, length, refl, sym, ap, ◌∙◌, arith, Option, Some, None}
use Rattle.std.specs.Prelude.{bytes_eq, codes, nat_le, nat_lt, if◌then◌else◌}
use Rattle.std.specs.List.{list_all}
use Rattle.std.proofs.lemmas.Bool.{and_parts, ne_eqb}
use Rattle.std.proofs.lemmas.Bool.Decides.{nat_tests}
use Rattle.std.proofs.lemmas.List.Elements.{All-nil}
use Rattle.std.proofs.lemmas.Option.{none-some, same_Some}
use Rattle.net_base.specs.Hexadecimal.{hex_byte, hex_bytes, hex_digit, hex_digits, hex_text, hex_value, hex_word}
use Rattle.net_base.specs.World.{is_byte}
use Rattle.net_base.proofs.Texts.{IsWithout, without_one}
use Rattle.std.proofs.lemmas.Slice.Eq.{bytes_eq-Decides}

and-false : (b : Bool) → b && false ≡ false
and-false true = refl
and-false false = refl

-- From the word to the bytes.

pub record IsDigit (b n : ℕ) : Type 0 where
  pub is : b ≡ hex_digit n
  pub small : n < 16

pub digit-is : (b n : ℕ) → hex_value b ≡ Some n → IsDigit b n
digit-is b n e = by (nat_le 48 b && nat_le b 57) refl (nat_le 97 b && nat_le b 102) refl e
  where
    low : (c m : ℕ) → (nat_le 48 c && nat_le c 57) ≡ true → c - 48 ≡ m → (c ≡ 48 + m) × (nat_lt m 10 ≡ true) × (m < 16)
    low c m t is = (grind (arith, nat_tests), grind (arith, nat_tests), grind (arith, nat_tests))

    high : (c m : ℕ) → (nat_le 97 c && nat_le c 102) ≡ true → c - 87 ≡ m → (c ≡ 87 + m) × (nat_lt m 10 ≡ false) × (m < 16)
    high c m t is = (grind (arith, nat_tests), grind (arith, nat_tests), grind (arith, nat_tests))

    by : (v : Bool) → (nat_le 48 b && nat_le b 57) ≡ v → (w : Bool) → (nat_le 97 b && nat_le b 102) ≡ w → (if v then Some (b - 48) else (if w then Some (b - 87) else None)) ≡ Some n → IsDigit b n
    by true t w u f = let h = low b n t (same_Some (b - 48) n f) in record { is = h.0 ∙ ap (λ c. if c then 48 + n else 87 + n) (sym h.1); small = h.2 }
    by false t true u f = let h = high b n u (same_Some (b - 87) n f) in record { is = h.0 ∙ ap (λ c. if c then 48 + n else 87 + n) (sym h.1); small = h.2 }
    by false t false u f = absurd (none-some n f)

pub hex-digits : (word bytes : List ℕ) → hex_bytes word ≡ Some bytes → word ≡ hex_digits bytes
hex-digits [] bytes e = ap hex_digits (same_Some [] bytes e)
hex-digits (high ∷ []) bytes e = absurd (none-some bytes e)
hex-digits (high ∷ low ∷ word) bytes e = by (hex_value high) refl (hex_value low) refl (hex_bytes word) refl e (hex-digits word)
  where
    put : (h l : ℕ) (more : List ℕ) → IsDigit high h → IsDigit low l → word ≡ hex_digits more → high ∷ low ∷ word ≡ hex_digits ((h * 16 + l) ∷ more)
    put h l more a b later =
        let small = b.small in
        let up : (h * 16 + l) / 16 ≡ h = omega (arith, small) in
        let down : (h * 16 + l) % 16 ≡ l = omega (arith, small) in
        ap (λ x. x ∷ low ∷ word) (a.is ∙ ap hex_digit (sym up))
        ∙ (ap (λ x. hex_digit ((h * 16 + l) / 16) ∷ x ∷ word) (b.is ∙ ap hex_digit (sym down)) ∙ ap (λ ws. hex_digit ((h * 16 + l) / 16) ∷ hex_digit ((h * 16 + l) % 16) ∷ ws) later)

    by : (o : Option ℕ) → hex_value high ≡ o → (p : Option ℕ) → hex_value low ≡ p → (q : Option (List ℕ)) → hex_bytes word ≡ q → hex_byte o p q ≡ Some bytes
        → ((more : List ℕ) → hex_bytes word ≡ Some more → word ≡ hex_digits more) → high ∷ low ∷ word ≡ hex_digits bytes
    by (Some h) eh (Some l) el (Some more) em f later =
        put h l more (digit-is high h eh) (digit-is low l el) (later more em) ∙ ap hex_digits (same_Some ((h * 16 + l) ∷ more) bytes f)
    by (Some h) eh (Some l) el None em f later = absurd (none-some bytes f)
    by (Some h) eh None el q em f later = absurd (none-some bytes f)
    by None eh p el q em f later = absurd (none-some bytes f)

-- bytes that two digits spell aren't none
some-digits : (word bytes : List ℕ) → 0 < length word → word ≡ hex_digits bytes → word ≡ hex_word bytes
some-digits word [] some e = absurd (let n = ap (λ (ws : List ℕ). length ws) e in omega (arith, n, some))
some-digits word (b ∷ bytes) some e = e

pub hex-spelled : (word bytes : List ℕ) → hex_text word ≡ Some bytes → word ≡ hex_word bytes
hex-spelled [] bytes e = absurd (none-some bytes e)
hex-spelled (b ∷ word) bytes e = by (bytes_eq (b ∷ word) (codes "-")) refl e
  where
    by : (v : Bool) → bytes_eq (b ∷ word) (codes "-") ≡ v → (if v then Some [] else hex_bytes (b ∷ word)) ≡ Some bytes → b ∷ word ≡ hex_word bytes
    by true is f = (bytes_eq-Decides (b ∷ word) (codes "-")).0 is ∙ ap hex_word (same_Some [] bytes f)
    by false is f = some-digits (b ∷ word) bytes (omega arith) (hex-digits (b ∷ word) bytes f)

-- From the bytes to the word.

digit-back : (n : ℕ) → n < 16 → hex_value (hex_digit n) ≡ Some n
digit-back n small = by (nat_lt n 10) refl
  where
    low : (m : ℕ) → nat_lt m 10 ≡ true → (nat_le 48 (48 + m) && nat_le (48 + m) 57) ≡ true
    low m t = grind (arith, nat_tests)

    not-low : (m : ℕ) → nat_lt m 10 ≡ false → (nat_le 48 (87 + m) && nat_le (87 + m) 57) ≡ false
    not-low m t = grind (arith, nat_tests)

    high : (m : ℕ) → nat_lt m 10 ≡ false → m < 16 → (nat_le 97 (87 + m) && nat_le (87 + m) 102) ≡ true
    high m t s = grind (arith, nat_tests)

    by : (v : Bool) → nat_lt n 10 ≡ v → hex_value (if v then 48 + n else 87 + n) ≡ Some n
    by true t = ap (λ c. if c then Some (48 + n - 48) else (if nat_le 97 (48 + n) && nat_le (48 + n) 102 then Some (48 + n - 87) else None)) (low n t) ∙ ap (λ (k : ℕ). Some k) (omega arith)
    by false t =
        ap (λ c. if c then Some (87 + n - 48) else (if nat_le 97 (87 + n) && nat_le (87 + n) 102 then Some (87 + n - 87) else None)) (not-low n t)
        ∙ (ap (λ c. if c then Some (87 + n - 87) else None) (high n t small) ∙ ap (λ (k : ℕ). Some k) (omega arith))

pub byte-small : (b : ℕ) → is_byte b ≡ true → b < 256
byte-small b e = grind (arith, nat_tests)

digits-back : (bytes : List ℕ) → list_all is_byte bytes ≡ true → hex_bytes (hex_digits bytes) ≡ Some bytes
digits-back [] all = refl
digits-back (b ∷ bytes) all =
    let parts = and_parts (is_byte b) (list_all is_byte bytes) all in
    let small = byte-small b parts.0 in
    let high : b / 16 < 16 = omega (arith, small) in
    let low : b % 16 < 16 = omega arith in
    ap (λ o. hex_byte o (hex_value (hex_digit (b % 16))) (hex_bytes (hex_digits bytes))) (digit-back (b / 16) high)
    ∙ (ap (λ o. hex_byte (Some (b / 16)) o (hex_bytes (hex_digits bytes))) (digit-back (b % 16) low)
    ∙ (ap (hex_byte (Some (b / 16)) (Some (b % 16))) (digits-back bytes parts.1) ∙ ap (λ (n : ℕ). Some (n ∷ bytes)) (omega arith)))

pub hex-back : (bytes : List ℕ) → list_all is_byte bytes ≡ true → hex_text (hex_word bytes) ≡ Some bytes
hex-back [] all = refl
hex-back (b ∷ bytes) all =
    ap (λ v. if v then Some [] else hex_bytes (hex_digits (b ∷ bytes))) (and-false (hex_digit (b / 16) == 45)) ∙ digits-back (b ∷ bytes) all

-- A word of digits has no byte that is no digit.

pub digit-other : (s n : ℕ) → s < 45 → (hex_digit n == s) ≡ false
digit-other s n low = by (nat_lt n 10)
  where
    by : (v : Bool) → ((if v then 48 + n else 87 + n) == s) ≡ false
    by true = ne_eqb (48 + n) s (λ is. omega (arith, is, low))
    by false = ne_eqb (87 + n) s (λ is. omega (arith, is, low))

digits-without : (s : ℕ) (bytes : List ℕ) → s < 45 → IsWithout s (hex_digits bytes)
digits-without s [] low = All-nil (λ (x : ℕ). (x == s) ≡ false)
digits-without s (b ∷ bytes) low =
    without_one s (hex_digit (b / 16)) (hex_digit (b % 16) ∷ hex_digits bytes) (digit-other s (b / 16) low)
    (without_one s (hex_digit (b % 16)) (hex_digits bytes) (digit-other s (b % 16) low) (digits-without s bytes low))

pub hex-without : (s : ℕ) (bytes : List ℕ) → s < 45 → IsWithout s (hex_word bytes)
hex-without s [] low = without_one s 45 [] (ne_eqb 45 s (λ is. omega (arith, is, low))) (All-nil (λ (x : ℕ). (x == s) ≡ false))
hex-without s (b ∷ bytes) low = digits-without s (b ∷ bytes) low
