-- A database as it is written: each line of a tuple on a line of its own, the first one without a tab before it.
use Rattle.std.specs.Prelude.{ℕ, List, [], ◌∷◌, ◌++◌, codes, if◌then◌else◌}
use Rattle.std.specs.List.{list_any}
use Rattle.net_base.specs.Ndb.{NdbPair}
use Rattle.net_base.specs.NdbText.{is_white}

-- a value stands in quotes where it has white space
abbrev pub value_text : List ℕ → List ℕ
value_text value = if list_any is_white value then codes "\"" ++ (value ++ codes "\"") else value

abbrev pub one_pair_text : NdbPair → List ℕ
one_pair_text pair = pair.attr ++ (codes "=" ++ value_text pair.value)

-- pairs with a blank before each
abbrev pub more_pairs : List NdbPair → List ℕ
more_pairs [] = []
more_pairs (pair ∷ pairs) = codes " " ++ (one_pair_text pair ++ more_pairs pairs)

-- pairs with a blank between them
abbrev pub pairs_text : List NdbPair → List ℕ
pairs_text [] = []
pairs_text (pair ∷ pairs) = one_pair_text pair ++ more_pairs pairs

-- lines with a tab before each
abbrev pub more_lines : List (List NdbPair) → List ℕ
more_lines [] = []
more_lines (line ∷ lines) = codes "\t" ++ (pairs_text line ++ (codes "\n" ++ more_lines lines))

abbrev pub tuple_text : List (List NdbPair) → List ℕ
tuple_text [] = []
tuple_text (line ∷ lines) = pairs_text line ++ (codes "\n" ++ more_lines lines)

abbrev pub db_text : List (List (List NdbPair)) → List ℕ
db_text [] = []
db_text (tuple ∷ tuples) = tuple_text tuple ++ db_text tuples
