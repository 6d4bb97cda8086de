-- Bytes and lines, told by their hexadecimal.
use Rattle.std.proofs.Common.{◌≡◌, ℕ, ◌+◌, ◌-◌, ◌*◌, ◌/◌, ◌%◌, ◌<◌, ◌==◌, Bool, true, false, nat_lt, if◌then◌else◌, List, [], ◌∷◌, ◌++◌, refl, ◌∙◌, ap, append_assoc, arith}
use Rattle.std.specs.List.{list_all}
use Rattle.net_base.specs.Plain.{IsClean, IsLine, AreLines, AreBytes}
use Rattle.net_base.specs.Transcript.{hex_digit, hex_digits, hex_word, as_lines}

-- what a digit stands for
abbrev pub value : ℕ → ℕ
value digit = if nat_lt digit 58 then digit - 48 else digit - 87

-- the bytes that a word of digits stands for
unfoldable pub unhex : List ℕ → List ℕ
unhex [] = []
unhex (a ∷ []) = []
unhex (a ∷ b ∷ word) = (value a * 16 + value b) ∷ unhex word

value_told : (n : ℕ) → value (hex_digit n) ≡ n
value_told n = grind arith

byte_told : (n : ℕ) → value (hex_digit (n / 16)) * 16 + value (hex_digit (n % 16)) ≡ n
byte_told n = rw (value_told (n / 16), value_told (n % 16)) (omega arith)

digits_told : (bytes : List ℕ) → unhex (hex_digits bytes) ≡ bytes
unfolding unhex
digits_told [] = refl
digits_told (b ∷ bs) = rw (byte_told b, digits_told bs) refl

pub unhexed : (bytes : List ℕ) → unhex (hex_word bytes) ≡ bytes
unfolding unhex
unhexed [] = refl
unhexed (b ∷ bs) = digits_told (b ∷ bs)

-- Clean words.

clean_hex_digit : (n : ℕ) → IsClean (hex_digit n ∷ [])
clean_hex_digit n = (λ is. grind (arith, is), λ is. grind (arith, is), tt)

clean_digits : (bytes : List ℕ) → IsClean (hex_digits bytes)
clean_digits [] = tt
clean_digits (b ∷ bs) =
    let high = clean_hex_digit (b / 16) in
    let low = clean_hex_digit (b % 16) in
    (high.0, high.1, (low.0, low.1, clean_digits bs))

pub clean_hex : (bytes : List ℕ) → IsClean (hex_word bytes)
clean_hex [] = (λ is. omega (arith, is), λ is. omega (arith, is), tt)
clean_hex (b ∷ bs) = clean_digits (b ∷ bs)

-- Digits, told from the names of files: each of these has a letter behind `f`.

abbrev pub is_hex : List ℕ → Bool
is_hex word = list_all (λ b. nat_lt b 103) word

digit_below : (n : ℕ) → n < 16 → nat_lt (hex_digit n) 103 ≡ true
digit_below n lt = grind arith

digits_are_hex : (bytes : List ℕ) → AreBytes bytes → is_hex (hex_digits bytes) ≡ true
digits_are_hex [] are = refl
digits_are_hex (b ∷ bs) are =
    rw (digit_below (b / 16) (omega (arith, are.0)), digit_below (b % 16) (omega arith)) (digits_are_hex bs are.1)

pub hex_is : (bytes : List ℕ) → AreBytes bytes → is_hex (hex_word bytes) ≡ true
hex_is [] are = refl
hex_is (b ∷ bs) are = digits_are_hex (b ∷ bs) are

-- Lines.

-- a byte before the first line
abbrev pub before_line : ℕ → List (List ℕ) → List (List ℕ)
before_line b [] = (b ∷ []) ∷ []
before_line b (line ∷ lines) = (b ∷ line) ∷ lines

-- the lines of bytes, cut behind each newline
unfoldable pub cut_lines : List ℕ → List (List ℕ)
cut_lines [] = []
cut_lines (b ∷ bs) = if b == 10 then [] ∷ cut_lines bs else before_line b (cut_lines bs)

one_line : (line rest : List ℕ) → IsLine line → cut_lines (line ++ 10 ∷ rest) ≡ line ∷ cut_lines rest
unfolding cut_lines
one_line [] rest is = refl
one_line (b ∷ bs) rest is =
    let other : (b == 10) ≡ false = grind (arith, is.0) in
    rw (other, one_line bs rest is.1) refl

pub lines_told : (lines : List (List ℕ)) → AreLines lines → cut_lines (as_lines lines) ≡ lines
unfolding cut_lines
lines_told [] are = refl
lines_told (line ∷ lines) are =
    ap cut_lines (append_assoc line (10 ∷ []) (as_lines lines)) ∙ one_line line (as_lines lines) are.0 ∙ ap (λ ls. line ∷ ls) (lines_told lines are.1)
