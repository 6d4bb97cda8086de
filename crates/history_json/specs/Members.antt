-- The members of JSON objects: each is a name and a value, with a comma before it.
use Rattle.std.specs.Prelude.{ℕ, ◌==◌, ◌&&◌, ◌||◌, Bool, true, false, List, [], ◌∷◌, ◌++◌, Option, Some, None, codes, flat_map, nat_le, if◌then◌else◌}
use Rattle.std.specs.List.{list_all}
use Rattle.net_base.specs.Hexadecimal.{hex_digits}
use Rattle.net_base.specs.Numeral.{numeral}

-- pieces, one after the other
abbrev pub joined : List (List ℕ) → List ℕ
joined pieces = flat_map (λ piece. piece) pieces

-- a word between quotes; it has no byte that must be escaped
abbrev pub quoted : List ℕ → List ℕ
quoted word = 34 ∷ (word ++ 34 ∷ [])

-- a comma, and the name of a member
abbrev pub label : List ℕ → List ℕ
label name = 44 ∷ (quoted name ++ 58 ∷ [])

-- a member that is a number, a word, nothing, true or false
unfoldable pub number : List ℕ → ℕ → List ℕ
number name n = label name ++ numeral n

unfoldable pub word : List ℕ → List ℕ → List ℕ
word name w = label name ++ quoted w

unfoldable pub nothing : List ℕ → List ℕ
nothing name = label name ++ codes "null"

unfoldable pub truth : List ℕ → Bool → List ℕ
truth name false = label name ++ codes "false"
truth name true = label name ++ codes "true"

abbrev pub number_or_null : List ℕ → Option ℕ → List ℕ
number_or_null name None = nothing name
number_or_null name (Some n) = number name n

-- a brace, and the first member of an object, which is a word
unfoldable pub first_word : List ℕ → List ℕ → List ℕ
first_word name w = 123 ∷ (quoted name ++ (58 ∷ quoted w))

-- so a first member that is a number
unfoldable pub first_number : List ℕ → ℕ → List ℕ
first_number name n = 123 ∷ (quoted name ++ (58 ∷ numeral n))

-- after the last member
abbrev pub brace : List ℕ
brace = 125 ∷ []

-- Texts.

-- a byte that can be shown: a printed ASCII character, a tab or a newline
abbrev pub is_plain : ℕ → Bool
is_plain b = (nat_le 32 b && nat_le b 126) || ((b == 9) || (b == 10))

-- it inside quotes: `\t` and `\n`, and a backslash before a quote or a backslash
abbrev pub escaped : ℕ → List ℕ
escaped b =
    if b == 9 then 92 ∷ 116 ∷ []
    else if b == 10 then 92 ∷ 110 ∷ []
    else if (b == 34) || (b == 92) then 92 ∷ b ∷ []
    else b ∷ []

abbrev pub escapes : List ℕ → List ℕ
escapes [] = []
escapes (b ∷ bs) = escaped b ++ escapes bs

-- the member `text`: a text of bytes that can be shown, or null
unfoldable pub text_member : List ℕ → List ℕ
text_member bytes =
    if list_all is_plain bytes
    then label (codes "text") ++ (34 ∷ (escapes bytes ++ 34 ∷ []))
    else nothing (codes "text")

-- the member `hex`: two digits a byte
unfoldable pub hex_member : List ℕ → List ℕ
hex_member bytes = label (codes "hex") ++ quoted (hex_digits bytes)

-- both, of a text
abbrev pub text : List ℕ → List (List ℕ)
text bytes = text_member bytes ∷ hex_member bytes ∷ []
