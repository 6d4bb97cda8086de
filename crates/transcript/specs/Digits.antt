-- The digits of lines, text by text.
use Rattle.std.specs.Prelude.{ℕ, List, [], ◌∷◌, ◌++◌}
use Rattle.net_base.specs.Transcript.{hex_digits}

-- the digits of each text, and those of a newline
abbrev pub line_digits : List (List ℕ) → List ℕ
line_digits [] = []
line_digits (text ∷ texts) = (hex_digits text ++ hex_digits (10 ∷ [])) ++ line_digits texts
