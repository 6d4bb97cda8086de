-- Digits of texts that stand behind one another.
use Rattle.std.proofs.Common.{◌≡◌, ◌==◌, ℕ, false, List, [], ◌∷◌, ◌++◌, length, refl, sym, append_assoc, append-nil}
use Rattle.net_base.specs.Transcript.{hex_digits, hex_word, as_lines}
use Rattle.transcript.specs.Digits.{line_digits}

digits_both : (xs ys : List ℕ) → hex_digits (xs ++ ys) ≡ hex_digits xs ++ hex_digits ys
digits_both [] ys = refl
digits_both (x ∷ xs) ys = rw (digits_both xs ys) refl

line_digits_are : (texts : List (List ℕ)) → line_digits texts ≡ hex_digits (as_lines texts)
line_digits_are [] = refl
line_digits_are (text ∷ texts) =
    rw (digits_both (text ++ 10 ∷ []) (as_lines texts), digits_both text (10 ∷ []), line_digits_are texts) refl

-- lines have bytes, where there are any lines
pub hex_of_lines : (texts : List (List ℕ)) → (length texts == 0) ≡ false → hex_word (as_lines texts) ≡ line_digits texts
hex_of_lines [] some = absurd (cc)
hex_of_lines ([] ∷ texts) some = sym (line_digits_are ([] ∷ texts))
hex_of_lines ((byte ∷ bytes) ∷ texts) some = sym (line_digits_are ((byte ∷ bytes) ∷ texts))

-- a blank, and then digits
pub behind_a_blank : (out blank all digits : List ℕ) → blank ≡ out ++ 32 ∷ [] → all ≡ blank ++ digits → all ≡ out ++ 32 ∷ (digits ++ [])
behind_a_blank out blank all digits pushed put = rw (put, pushed) (simp (append_assoc, append-nil) refl)
