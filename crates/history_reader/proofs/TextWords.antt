-- Texts in hexadecimal are read exactly.
use Rattle.std.proofs.Common.{◌≡◌, ℕ, ◌+◌, ◌*◌, ◌/◌, ◌%◌, ◌<◌, Bool, true, false, List, [], ◌∷◌, ◌++◌, refl, sym, ap, subst, ◌∙◌, arith, Option, Some, None, append_assoc, if◌then◌else◌, codes}
use Rattle.std.specs.Prelude.{bytes_eq, nat_lt, option_map}
use Rattle.std.specs.List.{join_with_byte, list_all}
use Rattle.std.proofs.lemmas.Bool.{true≢false}
use Rattle.std.proofs.lemmas.Bool.Decides.{nat_tests}
use Rattle.std.proofs.lemmas.List.Splits.{join_with_byte-slice_split}
use Rattle.std.proofs.lemmas.Option.{none-some, same_Some}
use Rattle.net_base.specs.declared.names.FileName.{FileName}
use Rattle.net_base.specs.declared.names.FileName.TheVariants as file
use Rattle.net_base.specs.Addresses.{parts_at}
use Rattle.net_base.specs.Hexadecimal.{hex_byte, hex_bytes, hex_digit, hex_digits, hex_text, hex_value, hex_word}
use Rattle.net_base.specs.Paths.{file_name, file_named}
use Rattle.net_base.specs.Plain.{AreBytes, AreLines}
use Rattle.net_base.specs.Transcript.{as_lines}
use Rattle.net_base.specs.World.{is_byte}
use Rattle.history_reader.specs.Fields as spec
use Rattle.history_reader.specs.Fields.{Words}
use Rattle.history_reader.specs.Wide.{AreByteLines}
use Rattle.history_reader.proofs.Clean.{AreFree, first_part, free_hex, free_line, line_free, parts_free}
use Rattle.history_reader.proofs.Exact.{Exact, ExactWord, exact_one}
use Rattle.history_reader.proofs.FieldWords.{file_sound}
use Rattle.net_base.proofs.Shared.{digit-is, hex-back, hex-spelled}

-- Bytes.

byte_is : (h l : ℕ) → h < 16 → l < 16 → h * 16 + l < 256
byte_is h l fh fl = omega (arith, fh, fl)

bytes_small : (word bytes : List ℕ) → hex_bytes word ≡ Some bytes → AreBytes bytes
bytes_small [] bytes e = subst AreBytes (same_Some [] bytes e) tt
bytes_small (high ∷ []) bytes e = absurd (none-some bytes e)
bytes_small (high ∷ low ∷ word) bytes e = by (hex_value high) refl (hex_value low) refl (hex_bytes word) refl e (bytes_small word)
  where
    by : (o : Option ℕ) → hex_value high ≡ o → (p : Option ℕ) → hex_value low ≡ p → (q : Option (List ℕ)) → hex_bytes word ≡ q → hex_byte o p q ≡ Some bytes
        → ((more : List ℕ) → hex_bytes word ≡ Some more → AreBytes more) → AreBytes bytes
    by (Some h) eh (Some l) el (Some more) em f later =
        subst AreBytes (same_Some ((h * 16 + l) ∷ more) bytes f) (byte_is h l (digit-is high h eh).small (digit-is low l el).small, later more em)
    by (Some h) eh (Some l) el None em f later = absurd (none-some bytes f)
    by (Some h) eh None el q em f later = absurd (none-some bytes f)
    by None eh p el q em f later = absurd (none-some bytes f)

text_small : (word bytes : List ℕ) → hex_text word ≡ Some bytes → AreBytes bytes
text_small [] bytes e = absurd (none-some bytes e)
text_small (b ∷ word) bytes e = by (bytes_eq (b ∷ word) (codes "-")) e
  where
    by : (v : Bool) → (if v then Some [] else hex_bytes (b ∷ word)) ≡ Some bytes → AreBytes bytes
    by true f = subst AreBytes (same_Some [] bytes f) tt
    by false f = bytes_small (b ∷ word) bytes f

is_byte_of : (b : ℕ) → b < 256 → is_byte b ≡ true
is_byte_of b lt = grind (arith, nat_tests)

all_bytes : (bytes : List ℕ) → AreBytes bytes → list_all is_byte bytes ≡ true
all_bytes [] are = refl
all_bytes (b ∷ bytes) are = rw (is_byte_of b are.0) (all_bytes bytes are.1)

hex_exact : ExactWord (List ℕ) hex_text hex_word AreBytes
hex_exact =
    record {
      sound = λ word bytes e. (hex-spelled word bytes e, text_small word bytes e);
      told = λ bytes are. hex-back bytes (all_bytes bytes are);
      bare = λ bytes are. (free_hex 32 bytes (omega arith), free_hex 10 bytes (omega arith));
    }

abbrev pub hexes : List ℕ → Words
hexes bytes = hex_word bytes ∷ []

pub text_exact : Exact (List ℕ) spec.text hexes AreBytes
text_exact = exact_one hex_text hex_word AreBytes hex_exact

-- Lines.

cut_spelled : (parts lines : List (List ℕ)) → spec.cut_texts parts ≡ Some lines → AreFree 10 parts → (join_with_byte 10 parts ≡ as_lines lines) × AreLines lines
cut_spelled [] lines e free = absurd (none-some lines e)
cut_spelled ([] ∷ []) lines e free = let same = same_Some [] lines e in (ap as_lines same, subst AreLines same tt)
cut_spelled ((b ∷ last) ∷ []) lines e free = absurd (none-some lines e)
cut_spelled ([] ∷ next ∷ parts) lines e free = by (spec.cut_texts (next ∷ parts)) refl e (λ ls f. cut_spelled (next ∷ parts) ls f free.1)
  where
    by : (o : Option (List (List ℕ))) → spec.cut_texts (next ∷ parts) ≡ o → option_map (λ (ts : List (List ℕ)). [] ∷ ts) o ≡ Some lines
        → ((ls : List (List ℕ)) → spec.cut_texts (next ∷ parts) ≡ Some ls → (join_with_byte 10 (next ∷ parts) ≡ as_lines ls) × AreLines ls)
        → (join_with_byte 10 ([] ∷ next ∷ parts) ≡ as_lines lines) × AreLines lines
    by None q f later = absurd (none-some lines f)
    by (Some ls) q f later =
        let is = later ls q in
        let same = same_Some ([] ∷ ls) lines f in
        (ap (λ ws. 10 ∷ ws) is.0 ∙ ap as_lines same, subst AreLines same (tt, is.1))
cut_spelled ((b ∷ text) ∷ next ∷ parts) lines e free = by (spec.cut_texts (next ∷ parts)) refl e (λ ls f. cut_spelled (next ∷ parts) ls f free.1)
  where
    by : (o : Option (List (List ℕ))) → spec.cut_texts (next ∷ parts) ≡ o → option_map (λ (ts : List (List ℕ)). (b ∷ text) ∷ ts) o ≡ Some lines
        → ((ls : List (List ℕ)) → spec.cut_texts (next ∷ parts) ≡ Some ls → (join_with_byte 10 (next ∷ parts) ≡ as_lines ls) × AreLines ls)
        → (join_with_byte 10 ((b ∷ text) ∷ next ∷ parts) ≡ as_lines lines) × AreLines lines
    by None q f later = absurd (none-some lines f)
    by (Some ls) q f later =
        let is = later ls q in
        let same = same_Some ((b ∷ text) ∷ ls) lines f in
        (ap (λ ws. (b ∷ text) ++ 10 ∷ ws) is.0 ∙ sym (append_assoc (b ∷ text) (10 ∷ []) (as_lines ls)) ∙ ap as_lines same, subst AreLines same (free_line (b ∷ text) free.0, is.1))

-- lines before a last part that isn't left out
cut_more : (text : List ℕ) (parts lines : List (List ℕ)) → spec.cut_texts parts ≡ Some lines → spec.cut_texts (text ∷ parts) ≡ Some (text ∷ lines)
cut_more text [] lines e = absurd (none-some lines e)
cut_more [] (next ∷ parts) lines e = ap (option_map (λ (ts : List (List ℕ)). [] ∷ ts)) e
cut_more (b ∷ text) (next ∷ parts) lines e = ap (option_map (λ (ts : List (List ℕ)). (b ∷ text) ∷ ts)) e

cut_told : (lines : List (List ℕ)) → AreLines lines → spec.cut_texts (parts_at 10 (as_lines lines)) ≡ Some lines
cut_told [] are = refl
cut_told (line ∷ lines) are =
    ap (λ ws. spec.cut_texts (parts_at 10 ws)) (append_assoc line (10 ∷ []) (as_lines lines))
    ∙ ap spec.cut_texts (first_part 10 line (as_lines lines) (line_free line are.0))
    ∙ cut_more line (parts_at 10 (as_lines lines)) lines (cut_told lines are.1)

bytes_parts : (xs ys : List ℕ) → AreBytes (xs ++ ys) → AreBytes xs × AreBytes ys
bytes_parts [] ys are = (tt, are)
bytes_parts (x ∷ xs) ys are = let rest = bytes_parts xs ys are.1 in ((are.0, rest.0), rest.1)

bytes_both : (xs ys : List ℕ) → AreBytes xs → AreBytes ys → AreBytes (xs ++ ys)
bytes_both [] ys ax ay = ay
bytes_both (x ∷ xs) ys ax ay = (ax.0, bytes_both xs ys ax.1 ay)

byte_lines : (lines : List (List ℕ)) → AreBytes (as_lines lines) → AreByteLines lines
byte_lines [] are = tt
byte_lines (line ∷ lines) are =
    let both = bytes_parts (line ++ 10 ∷ []) (as_lines lines) are in
    ((bytes_parts line (10 ∷ []) both.0).0, byte_lines lines both.1)

lines_bytes : (lines : List (List ℕ)) → AreByteLines lines → AreBytes (as_lines lines)
lines_bytes [] are = tt
lines_bytes (line ∷ lines) are = bytes_both (line ++ 10 ∷ []) (as_lines lines) (bytes_both line (10 ∷ []) are.0 (omega arith, tt)) (lines_bytes lines are.1)

abbrev pub AreTexts : List (List ℕ) → Type 0
AreTexts lines = AreByteLines lines × AreLines lines

abbrev pub line_hexes : List (List ℕ) → Words
line_hexes lines = hex_word (as_lines lines) ∷ []

texts_sound : (word : List ℕ) (lines : List (List ℕ)) → spec.texts_in (hex_text word) ≡ Some lines → (word ≡ hex_word (as_lines lines)) × AreTexts lines
texts_sound word lines e = by (hex_text word) refl e
  where
    by : (o : Option (List ℕ)) → hex_text word ≡ o → spec.texts_in o ≡ Some lines → (word ≡ hex_word (as_lines lines)) × AreTexts lines
    by None q f = absurd (none-some lines f)
    by (Some bytes) q f =
        let is = cut_spelled (parts_at 10 bytes) lines f (parts_free 10 bytes) in
        let same : bytes ≡ as_lines lines = sym (join_with_byte-slice_split 10 bytes) ∙ is.0 in
        (hex-spelled word bytes q ∙ ap hex_word same, (byte_lines lines (subst AreBytes same (text_small word bytes q)), is.1))

pub texts_exact : Exact (List (List ℕ)) spec.texts line_hexes AreTexts
texts_exact =
    exact_one (λ word. spec.texts_in (hex_text word)) (λ lines. hex_word (as_lines lines)) AreTexts
    (record {
      sound = texts_sound;
      told = λ lines are. ap spec.texts_in (hex_exact.told (as_lines lines) (lines_bytes lines are.0)) ∙ cut_told lines are.1;
      bare = λ lines are. (free_hex 32 (as_lines lines) (omega arith), free_hex 10 (as_lines lines) (omega arith));
    })

-- The digits of bytes aren't the name of a file.

abbrev is_hex : List ℕ → Bool
is_hex word = list_all (λ b. nat_lt b 103) word

digit_below : (n : ℕ) → n < 16 → nat_lt (hex_digit n) 103 ≡ true
digit_below n lt = grind arith

digits_are_hex : (bytes : List ℕ) → AreBytes bytes → is_hex (hex_digits bytes) ≡ true
digits_are_hex [] are = refl
digits_are_hex (b ∷ bytes) are =
    rw (digit_below (b / 16) (omega (arith, are.0)), digit_below (b % 16) (omega arith)) (digits_are_hex bytes are.1)

hex_is : (bytes : List ℕ) → AreBytes bytes → is_hex (hex_word bytes) ≡ true
hex_is [] are = refl
hex_is (b ∷ bytes) are = digits_are_hex (b ∷ bytes) are

not_hex : (f : FileName) → is_hex (file_name f) ≡ false
not_hex file.Ctl = refl
not_hex file.Data = refl
not_hex file.Err = refl
not_hex file.Listen = refl
not_hex file.Local = refl
not_hex file.Remote = refl
not_hex file.Status = refl

pub no_file : (bytes : List ℕ) → AreBytes bytes → file_named (hex_word bytes) ≡ None
no_file bytes are = by (file_named (hex_word bytes)) refl
  where
    by : (o : Option FileName) → file_named (hex_word bytes) ≡ o → o ≡ None
    by None e = refl
    by (Some f) e = absurd (true≢false (sym (hex_is bytes are) ∙ ap is_hex (file_sound (hex_word bytes) f e) ∙ not_hex f))
