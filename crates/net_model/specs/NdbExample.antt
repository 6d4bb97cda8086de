-- Tuples of worked texts.
use Rattle.std.specs.Prelude.{ℕ, List, [], ◌∷◌}
use Rattle.net_base.specs.Ndb.{NdbPair}

-- an attribute with its value
abbrev pub pair : List ℕ → List ℕ → NdbPair
pair attr value = record { attr = attr; value = value }

-- a tuple of one pair
abbrev pub tuple : List ℕ → List ℕ → List (List NdbPair)
tuple attr value = (pair attr value ∷ []) ∷ []
