-- Where each pair stands, by tuples and by pairs in a row.
use Rattle.std.specs.Prelude.{ℕ, ◌+◌, ◌-◌, Bool, false, ◌==◌, List, [], ◌∷◌, ◌++◌, length, slice_get, Option, option_map, option_to_list, if◌then◌else◌}
use Rattle.std.specs.Option.{option_map_or}
use Rattle.std.specs.List.{position_from}
use Rattle.net_base.specs.Ndb.{NdbPair}
use Rattle.net_base.specs.Search.{line_has}
use Rattle.net_base.specs.Spots.{spot_at}
use Rattle.net_base.specs.declared.ndb.spot.Spot.{Spot}

-- A pair's spots.

-- where the pair stands in the tuple at this place, if it does: on the first line that has it
abbrev pub spot_in : ℕ → List ℕ → List ℕ → List (List NdbPair) → Option Spot
spot_in place attr value tuple = option_map (spot_at place) (position_from (line_has attr value) 0 tuple)

-- where the pair stands in each tuple that contains it, in order, where the first tuple has this place
abbrev pub spots_from : ℕ → List ℕ → List ℕ → List (List (List NdbPair)) → List Spot
spots_from place attr value [] = []
spots_from place attr value (tuple ∷ tuples) =
    option_to_list (spot_in place attr value tuple) ++ spots_from (place + 1) attr value tuples

-- the spots of a pair in a database, whose first tuple has the place 0
abbrev pub spots_with : List ℕ → List ℕ → List (List (List NdbPair)) → List Spot
spots_with attr value db = spots_from 0 attr value db

-- What is found so far.

-- the last spot is in the tuple at this place
abbrev pub spot_ends_at : ℕ → List Spot → Bool
spot_ends_at place spots = option_map_or (λ spot. spot.place == place) (slice_get spots (length spots - 1)) false

-- the spots with one more, where the last one isn't in the same tuple
abbrev pub with_spot : Spot → List Spot → List Spot
with_spot spot spots = if spot_ends_at spot.place spots then spots else spots ++ spot ∷ []

-- the spots of a pair after one that stands there, or of another
abbrev pub spots_noted : Bool → Spot → List Spot → List Spot
spots_noted stands spot spots = if stands then with_spot spot spots else spots

-- the spots after the lines of the tuple at a place, of which the first has this number
abbrev pub lines_noted : ℕ → ℕ → List ℕ → List ℕ → List (List NdbPair) → List Spot → List Spot
lines_noted place number attr value [] spots = spots
lines_noted place number attr value (line ∷ lines) spots =
    lines_noted place (number + 1) attr value lines (spots_noted (line_has attr value line) (spot_at place number) spots)
