-- Texts that the script element of a page may have, and their lines.
use Rattle.std.specs.Prelude.{◌≡◌, ℕ, zero, suc, ◌==◌, Bool, true, not, ◌&&◌, ◌||◌, List, [], ◌∷◌, nat_le, nat_lt, if◌then◌else◌}
use Rattle.std.specs.List.{list_all}

-- a newline, or a character from 32 to 126, but no `<`
abbrev pub is_page_byte : ℕ → Bool
is_page_byte b = (b == 10) || (nat_le 32 b && nat_le b 126 && not (b == 60))

abbrev pub IsPlain : List ℕ → Type 0
IsPlain text = list_all is_page_byte text ≡ true

abbrev pub is_byte : ℕ → Bool
is_byte b = nat_lt b 256

abbrev pub AreBytes : List ℕ → Type 0
AreBytes text = list_all is_byte text ≡ true

abbrev pub is_newline : ℕ → Bool
is_newline b = b == 10

-- the first n lines of a text, with their newlines
abbrev pub first_lines : ℕ → List ℕ → List ℕ
first_lines zero text = []
first_lines (suc n) [] = []
first_lines (suc n) (b ∷ bs) = b ∷ first_lines (if is_newline b then n else suc n) bs
