-- The lines of an address.
use Rattle.std.specs.Prelude.{ℕ, List, [], ◌∷◌, Option, Some, None, unwrap_or}

abbrev pub first_tried : List (List ℕ) → Option (List ℕ)
first_tried [] = None
first_tried (line ∷ lines) = Some line

abbrev pub first_dial_line : List (List ℕ) → List ℕ
first_dial_line lines = unwrap_or (first_tried lines) []

abbrev pub other_lines : List (List ℕ) → List (List ℕ)
other_lines [] = []
other_lines (line ∷ lines) = lines
