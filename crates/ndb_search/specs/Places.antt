-- Tuples by their places in the database.
use Rattle.std.specs.Prelude.{ℕ, ◌+◌, Bool, List, [], ◌∷◌, if◌then◌else◌}
use Rattle.net_base.specs.Ndb.{NdbPair}
use Rattle.net_base.specs.Search.{tuple_has}

-- the places of the tuples that pass a test, where the first tuple has this place
abbrev pub tuple_places : (List (List NdbPair) → Bool) → ℕ → List (List (List NdbPair)) → List ℕ
tuple_places test place [] = []
tuple_places test place (tuple ∷ tuples) =
    if test tuple
    then place ∷ tuple_places test (place + 1) tuples
    else tuple_places test (place + 1) tuples

-- the places of the tuples that contain the pair, from 0
abbrev pub places_with : List ℕ → List ℕ → List (List (List NdbPair)) → List ℕ
places_with attr value db = tuple_places (tuple_has attr value) 0 db
