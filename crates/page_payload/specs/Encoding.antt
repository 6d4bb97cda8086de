-- An input in characters that a page may have, and back.
use Rattle.std.specs.Prelude.{ℕ, ◌+◌, ◌-◌, ◌*◌, ◌==◌, Bool, true, not, ◌&&◌, ◌||◌, List, [], ◌∷◌, ◌++◌, flat_map, nat_le, nat_lt, if◌then◌else◌}
use Rattle.net_base.specs.Hexadecimal.{hex_digits}

-- a newline, and the characters from 32 to 126 without `<`, `>`, `&` and the backslash, are kept
abbrev pub is_kept : ℕ → Bool
is_kept b = (b == 10) || (nat_le 32 b && nat_le b 126 && not (b == 60) && not (b == 62) && not (b == 38) && not (b == 92))

-- another byte is a backslash and two digits
abbrev pub encoded_byte : ℕ → List ℕ
encoded_byte b = if is_kept b then b ∷ [] else 92 ∷ hex_digits (b ∷ [])

-- the last byte is a newline; `ended` where there is none
abbrev pub ends_line : Bool → List ℕ → Bool
ends_line ended [] = ended
ends_line ended (b ∷ bs) = ends_line (b == 10) bs

-- a backslash and a newline say that the last line has no newline
abbrev pub encoded : List ℕ → List ℕ
encoded input = flat_map encoded_byte input ++ (if ends_line true input then [] else 92 ∷ 10 ∷ [])

-- what comes next: a byte, what follows a backslash, or a last digit
pub data Escape : Type 0 where
  Outside : Escape
  Behind : Escape
  Within : ℕ → Escape

-- the value of a hexadecimal digit
abbrev pub value_of : ℕ → ℕ
value_of digit = if nat_lt digit 58 then digit - 48 else digit - 87

abbrev pub decoded_from : Escape → List ℕ → List ℕ
decoded_from escape [] = []
decoded_from Outside (b ∷ bs) = if b == 92 then decoded_from Behind bs else b ∷ decoded_from Outside bs
decoded_from Behind (b ∷ bs) = if b == 10 then decoded_from Outside bs else decoded_from (Within (value_of b)) bs
decoded_from (Within high) (b ∷ bs) = (high * 16 + value_of b) ∷ decoded_from Outside bs

-- the input that such a text says
abbrev pub decoded : List ℕ → List ℕ
decoded text = decoded_from Outside text
