-- Databases that stand in one file as a whole.
use Rattle.std.specs.Prelude.{ℕ, Bool, true, ◌||◌, List, [], ◌∷◌, bytes_eq, codes, Option, Some, None}
use Rattle.std.specs.List.{list_any}
use Rattle.net_base.specs.Ndb.{NdbPair}
use Rattle.net_base.specs.NdbText.{is_empty}
use Rattle.net_base.specs.NdbBundle.{unnamed_file, choosing}
use Rattle.net_base.specs.Search.{values_in}

-- the `file` values of the tuple that chooses; no tuple has none
abbrev pub file_values : Option (List (List NdbPair)) → List (List ℕ)
file_values None = []
file_values (Some tuple) = values_in (codes "file") tuple

-- a name is the first file's
abbrev pub is_local : List ℕ → Bool
is_local name = bytes_eq name unnamed_file

-- the tuple that chooses, if there is one, gives no file, or the first file among others
abbrev pub is_file_whole : List (List (List NdbPair)) → Bool
is_file_whole db = is_empty (file_values (choosing db)) || list_any is_local (file_values (choosing db))

-- no name is given, or the first file's before others
abbrev pub begins_local : List (List ℕ) → Bool
begins_local [] = true
begins_local (name ∷ names) = is_local name

-- the tuple that chooses, if there is one, gives no file, or the first file before others
abbrev pub is_file_first : List (List (List NdbPair)) → Bool
is_file_first tuples = begins_local (file_values (choosing tuples))
