-- An input is read back from its lines.
use Rattle.std.proofs.Common.{◌≡◌, ℕ, zero, suc, ◌+◌, ◌*◌, ◌/◌, ◌%◌, ◌<◌, ◌==◌, Bool, true, false, cond, List, [], ◌∷◌, ◌++◌, refl, sym, ap, subst, ◌∙◌, append_assoc, arith}
use Rattle.std.specs.Prelude.{count_by, flat_map, if◌then◌else◌}
use Rattle.std.proofs.lemmas.Bool.{eqb-true, false≢true}
use Rattle.std.proofs.lemmas.List.{append-nil}
use Rattle.std.proofs.lemmas.List.Sums.{sum_by-cons}
use Rattle.net_base.specs.Hexadecimal.{hex_digit, hex_digits}
use Rattle.page_payload.specs.Encoding.{Behind, Outside, Within, decoded, decoded_from, encoded, encoded_byte, ends_line, is_kept, value_of}
use Rattle.page_payload.specs.PlainText.{first_lines, is_newline}

-- Bytes.

value_told : (n : ℕ) → value_of (hex_digit n) ≡ n
value_told n = grind arith

byte_told : (n : ℕ) → value_of (hex_digit (n / 16)) * 16 + value_of (hex_digit (n % 16)) ≡ n
byte_told n = rw (value_told (n / 16), value_told (n % 16)) (omega arith)

no_newline : (n : ℕ) → (hex_digit n == 10) ≡ false
no_newline n = grind arith

-- a byte that is kept is no backslash
no_slash : (b : ℕ) → is_kept b ≡ true → (b == 92) ≡ false
no_slash b kept = by (b == 92) refl
  where
    by : (v : Bool) → (b == 92) ≡ v → (b == 92) ≡ false
    by true e = absurd (false≢true (subst (λ (c : ℕ). is_kept c ≡ true) (eqb-true b 92 e) kept))
    by false e = e

-- nor is a byte that doesn't a newline
other_byte : (b : ℕ) → is_kept b ≡ false → (b == 10) ≡ false
other_byte b out = by (b == 10) refl
  where
    by : (v : Bool) → (b == 10) ≡ v → (b == 10) ≡ false
    by true e = absurd (false≢true (sym (subst (λ (c : ℕ). is_kept c ≡ false) (eqb-true b 10 e) out)))
    by false e = e

abbrev spelled : Bool → ℕ → List ℕ
spelled v b = if v then b ∷ [] else 92 ∷ hex_digits (b ∷ [])

kept_back : (b : ℕ) (rest : List ℕ) → (b == 92) ≡ false → decoded_from Outside (b ∷ rest) ≡ b ∷ decoded_from Outside rest
kept_back b rest e = ap (λ (v : Bool). if v then decoded_from Behind rest else b ∷ decoded_from Outside rest) e

escaped_back : (b : ℕ) (rest : List ℕ) → decoded_from Outside (92 ∷ hex_digit (b / 16) ∷ hex_digit (b % 16) ∷ rest) ≡ b ∷ decoded_from Outside rest
escaped_back b rest =
    ap (λ (v : Bool). if v then decoded_from Outside (hex_digit (b % 16) ∷ rest) else decoded_from (Within (value_of (hex_digit (b / 16)))) (hex_digit (b % 16) ∷ rest)) (no_newline (b / 16))
    ∙ ap (λ (c : ℕ). c ∷ decoded_from Outside rest) (byte_told b)

byte_back : (b : ℕ) (rest : List ℕ) → decoded_from Outside (encoded_byte b ++ rest) ≡ b ∷ decoded_from Outside rest
byte_back b rest = by (is_kept b) refl
  where
    by : (v : Bool) → is_kept b ≡ v → decoded_from Outside (spelled (is_kept b) b ++ rest) ≡ b ∷ decoded_from Outside rest
    by true e = ap (λ (v : Bool). decoded_from Outside (spelled v b ++ rest)) e ∙ kept_back b rest (no_slash b e)
    by false e = ap (λ (v : Bool). decoded_from Outside (spelled v b ++ rest)) e ∙ escaped_back b rest

bytes_back : (input rest : List ℕ) → decoded_from Outside (flat_map encoded_byte input ++ rest) ≡ input ++ decoded_from Outside rest
bytes_back [] rest = refl
bytes_back (b ∷ bs) rest =
    ap (decoded_from Outside) (append_assoc (encoded_byte b) (flat_map encoded_byte bs) rest)
    ∙ byte_back b (flat_map encoded_byte bs ++ rest)
    ∙ ap (λ (xs : List ℕ). b ∷ xs) (bytes_back bs rest)

abbrev closing : Bool → List ℕ
closing ended = if ended then [] else 92 ∷ 10 ∷ []

closing_back : (ended : Bool) → decoded_from Outside (closing ended) ≡ []
closing_back true = refl
closing_back false = refl

pub whole_back : (input : List ℕ) → decoded (encoded input) ≡ input
whole_back input =
    bytes_back input (closing (ends_line true input))
    ∙ ap (λ (xs : List ℕ). input ++ xs) (closing_back (ends_line true input))
    ∙ append-nil input

-- Lines.

ends_both : (ended : Bool) (xs ys : List ℕ) → ends_line ended (xs ++ ys) ≡ ends_line (ends_line ended xs) ys
ends_both ended [] ys = refl
ends_both ended (x ∷ xs) ys = ends_both (x == 10) xs ys

byte_ends : (ended : Bool) (b : ℕ) → ends_line ended (encoded_byte b) ≡ (b == 10)
byte_ends ended b = by (is_kept b) refl
  where
    by : (v : Bool) → is_kept b ≡ v → ends_line ended (spelled (is_kept b) b) ≡ (b == 10)
    by true e = ap (λ (v : Bool). ends_line ended (spelled v b)) e
    by false e = ap (λ (v : Bool). ends_line ended (spelled v b)) e ∙ (no_newline (b % 16) ∙ sym (other_byte b e))

bytes_end : (ended : Bool) (input : List ℕ) → ends_line ended (flat_map encoded_byte input) ≡ ends_line ended input
bytes_end ended [] = refl
bytes_end ended (b ∷ bs) =
    ends_both ended (encoded_byte b) (flat_map encoded_byte bs)
    ∙ ap (λ (v : Bool). ends_line v (flat_map encoded_byte bs)) (byte_ends ended b)
    ∙ bytes_end (b == 10) bs

closing_ends : (ended : Bool) → ends_line ended (closing ended) ≡ true
closing_ends true = refl
closing_ends false = refl

encoded_ends : (input : List ℕ) → ends_line true (encoded input) ≡ true
encoded_ends input =
    ends_both true (flat_map encoded_byte input) (closing (ends_line true input))
    ∙ ap (λ (v : Bool). ends_line v (closing (ends_line true input))) (bytes_end true input)
    ∙ closing_ends (ends_line true input)

abbrev lines_in : List ℕ → ℕ
lines_in xs = count_by is_newline xs

lines_cons : (x : ℕ) (xs : List ℕ) → lines_in (x ∷ xs) ≡ cond (x == 10) 1 0 + lines_in xs
lines_cons x xs = sum_by-cons (λ (y : ℕ). cond (is_newline y) 1 0) x xs

-- after a line that has begun there is a newline
some_line : (xs : List ℕ) → ends_line false xs ≡ true → 0 < lines_in xs
some_line [] ends = absurd (false≢true ends)
some_line (x ∷ xs) ends =
    subst (λ (k : ℕ). 0 < k) (sym (lines_cons x xs)) (by (x == 10) refl (λ (e : ends_line false xs ≡ true). some_line xs e))
  where
    by : (v : Bool) → (x == 10) ≡ v → (ends_line false xs ≡ true → 0 < lines_in xs) → 0 < cond (x == 10) 1 0 + lines_in xs
    by true e rest = subst (λ (v : Bool). 0 < cond v 1 0 + lines_in xs) (sym e) (omega arith)
    by false e rest =
        let more : 0 < lines_in xs = rest (subst (λ (v : Bool). ends_line v xs ≡ true) e ends) in
        subst (λ (v : Bool). 0 < cond v 1 0 + lines_in xs) (sym e) (omega (arith, more))

whole_lines : (ended : Bool) (xs behind : List ℕ) (n : ℕ) → n ≡ lines_in xs → ends_line ended xs ≡ true → first_lines n (xs ++ behind) ≡ xs
whole_lines ended [] behind zero count ends = refl
whole_lines ended [] behind (suc n) count ends = absurd (omega (arith, count))
whole_lines ended (x ∷ xs) behind zero count ends = absurd (by (x == 10) refl (count ∙ lines_cons x xs))
  where
    by : (v : Bool) → (x == 10) ≡ v → 0 ≡ cond (x == 10) 1 0 + lines_in xs → ⊥
    by true e all = let h : 0 ≡ cond true 1 0 + lines_in xs = subst (λ (v : Bool). 0 ≡ cond v 1 0 + lines_in xs) e all in omega (arith, h)
    by false e all =
        let h : 0 ≡ cond false 1 0 + lines_in xs = subst (λ (v : Bool). 0 ≡ cond v 1 0 + lines_in xs) e all in
        let more : 0 < lines_in xs = some_line xs (subst (λ (v : Bool). ends_line v xs ≡ true) e ends) in
        omega (arith, h, more)
whole_lines ended (x ∷ xs) behind (suc n) count ends =
    ap (λ (ys : List ℕ). x ∷ ys)
    (by (x == 10) refl (count ∙ lines_cons x xs)
    (λ (f : Bool) (m : ℕ) (c : m ≡ lines_in xs) (e : ends_line f xs ≡ true). whole_lines f xs behind m c e))
  where
    by : (v : Bool) → (x == 10) ≡ v → suc n ≡ cond (x == 10) 1 0 + lines_in xs
        → ((f : Bool) (m : ℕ) → m ≡ lines_in xs → ends_line f xs ≡ true → first_lines m (xs ++ behind) ≡ xs)
        → first_lines (if x == 10 then n else suc n) (xs ++ behind) ≡ xs
    by true e all rest =
        let h : suc n ≡ cond true 1 0 + lines_in xs = subst (λ (v : Bool). suc n ≡ cond v 1 0 + lines_in xs) e all in
        ap (λ (v : Bool). first_lines (if v then n else suc n) (xs ++ behind)) e
        ∙ rest true n (omega (arith, h)) (subst (λ (v : Bool). ends_line v xs ≡ true) e ends)
    by false e all rest =
        let h : suc n ≡ cond false 1 0 + lines_in xs = subst (λ (v : Bool). suc n ≡ cond v 1 0 + lines_in xs) e all in
        ap (λ (v : Bool). first_lines (if v then n else suc n) (xs ++ behind)) e
        ∙ rest false (suc n) (omega (arith, h)) (subst (λ (v : Bool). ends_line v xs ≡ true) e ends)

-- the lines of an input say it again
pub lines_back : (input behind : List ℕ) → decoded (first_lines (lines_in (encoded input)) (encoded input ++ behind)) ≡ input
lines_back input behind = ap decoded (whole_lines true (encoded input) behind (lines_in (encoded input)) refl (encoded_ends input)) ∙ whole_back input
