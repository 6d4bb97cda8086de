-- Texts as people read them: between quotes where every byte can be shown, and else in hexadecimal.
use Rattle.std.specs.Prelude.{ℕ, ◌==◌, ◌&&◌, ◌||◌, Bool, List, [], ◌∷◌, ◌++◌, codes, nat_le, if◌then◌else◌}
use Rattle.std.specs.List.{list_all}
use Rattle.net_base.specs.Hexadecimal.{hex_digits}

-- a byte that can be shown: a printed ASCII character, a tab or a newline
abbrev pub is_plainly_shown : ℕ → Bool
is_plainly_shown b = (nat_le 32 b && nat_le b 126) || ((b == 9) || (b == 10))

-- it between quotes: `\t` and `\n`, and a backslash before a quote or a backslash
abbrev pub escaped : ℕ → List ℕ
escaped b =
    if b == 9 then codes "\\t"
    else if b == 10 then codes "\\n"
    else if (b == 34) || (b == 92) then 92 ∷ b ∷ []
    else b ∷ []

abbrev pub escapes : List ℕ → List ℕ
escapes [] = []
escapes (b ∷ bs) = escaped b ++ escapes bs

abbrev pub quoted : List ℕ → List ℕ
quoted text = 34 ∷ (escapes text ++ 34 ∷ [])

-- a text
unfoldable pub shown : List ℕ → List ℕ
shown text = if list_all is_plainly_shown text then quoted text else codes "hex " ++ hex_digits text

-- texts, each a word
abbrev pub each_shown : List (List ℕ) → List (List ℕ)
each_shown [] = []
each_shown (text ∷ texts) = shown text ∷ each_shown texts

abbrev pub all_shown : List (List ℕ) → List (List ℕ)
all_shown [] = codes "none" ∷ []
all_shown (text ∷ texts) = each_shown (text ∷ texts)
