-- The lines of the answers of sessions.
use Rattle.std.specs.Prelude.{ℕ, List, [], ◌∷◌, ◌++◌, flat_map, codes}
use Rattle.net_base.specs.Hexadecimal.{hex_word}
use Rattle.net_base.specs.Numeral.{numeral}
use Rattle.session_script.specs.declared.world.Session.{Session}

-- a line `9p CALLER HEX` for an answer
abbrev pub answer_line : ℕ → List ℕ → List ℕ
answer_line c answer = codes "9p " ++ numeral c ++ codes " " ++ hex_word answer ++ 10 ∷ []

-- the answers of each session in turn, session by session
abbrev pub answer_lines : List Session → List (List (List ℕ)) → List ℕ
answer_lines [] all = []
answer_lines (x ∷ xs) [] = []
answer_lines (x ∷ xs) (answers ∷ all) = flat_map (answer_line x.place) answers ++ answer_lines xs all
