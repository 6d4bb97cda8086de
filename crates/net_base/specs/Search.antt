-- Searches of the database by an attribute with its value, ndb(2).
use Rattle.std.specs.Prelude.{ℕ, Bool, ◌&&◌, bytes_eq, List, [], ◌∷◌, map, filter, flat_map, find, Option, Some, None}
use Rattle.std.specs.List.{list_any}
use Rattle.net_base.specs.Ndb.{NdbPair}

-- the pair has this attribute, byte for byte
abbrev pub has_attr : List ℕ → NdbPair → Bool
has_attr attr pair = bytes_eq pair.attr attr

-- the pair has this attribute and this value, byte for byte
abbrev pub is_pair : List ℕ → List ℕ → NdbPair → Bool
is_pair attr value pair = bytes_eq pair.attr attr && bytes_eq pair.value value

-- the pair stands on the line
abbrev pub line_has : List ℕ → List ℕ → List NdbPair → Bool
line_has attr value line = list_any (is_pair attr value) line

-- the pair stands in the tuple
abbrev pub tuple_has : List ℕ → List ℕ → List (List NdbPair) → Bool
tuple_has attr value tuple = list_any (line_has attr value) tuple

-- the tuples that contain the pair, in order
abbrev pub tuples_with : List ℕ → List ℕ → List (List (List NdbPair)) → List (List (List NdbPair))
tuples_with attr value db = filter (tuple_has attr value) db

-- the values of an attribute on a line, in order
abbrev pub values_on : List ℕ → List NdbPair → List (List ℕ)
values_on attr line = map (λ pair. pair.value) (filter (has_attr attr) line)

-- the values of an attribute in a tuple, in order
abbrev pub values_in : List ℕ → List (List NdbPair) → List (List ℕ)
values_in attr tuple = flat_map (values_on attr) tuple

-- the values of an attribute on a line, if there is one
abbrev pub values_on_found : List ℕ → Option (List NdbPair) → List (List ℕ)
values_on_found attr None = []
values_on_found attr (Some line) = values_on attr line

-- the list, or the other one where it is empty
abbrev pub or_where_empty : {X : Type 0} → List X → List X → List X
or_where_empty [] others = others
or_where_empty (x ∷ xs) others = x ∷ xs

-- the values of the other attribute on the line of the pair's first occurrence, where there are any, else in the tuple
abbrev pub beside : List ℕ → List ℕ → List ℕ → List (List NdbPair) → List (List ℕ)
beside attr value other tuple =
    or_where_empty (values_on_found other (find (line_has attr value) tuple)) (values_in other tuple)

-- the values of the other attribute beside the pair, in all tuples that contain it
abbrev pub all_beside : List ℕ → List ℕ → List ℕ → List (List (List NdbPair)) → List (List ℕ)
all_beside attr value other db = flat_map (beside attr value other) (tuples_with attr value db)
