-- Where each pair of a database stands: its tuple, and the line of that.
use Rattle.std.specs.Prelude.{ℕ, ◌+◌, ◌≤◌, ◌<◌, Bool, ◌&&◌, ◌==◌, List, [], ◌∷◌, ◌++◌, length, map, flat_map, get_or}
use Rattle.net_base.specs.Parts.{start_at}
use Rattle.net_base.specs.Ndb.{NdbPair}
use Rattle.net_base.specs.declared.ndb.spot.Spot.{Spot}

-- whether two spots are one line of one tuple
abbrev pub same_spot : Spot → Spot → Bool
same_spot spot other = spot.place == other.place && spot.line == other.line

abbrev pub spot_at : ℕ → ℕ → Spot
spot_at place line = record { place = place; line = line }

-- the places of the lines of a tuple, of which the first has this number
abbrev pub line_spots : ℕ → ℕ → List (List NdbPair) → List Spot
line_spots tuple line [] = []
line_spots tuple line (pairs ∷ lines) = spot_at tuple line ∷ line_spots tuple (line + 1) lines

-- the places of all lines, where the first tuple has this number
abbrev pub all_lines : ℕ → List (List (List NdbPair)) → List Spot
all_lines number [] = []
all_lines number (tuple ∷ tuples) = line_spots number 0 tuple ++ all_lines (number + 1) tuples

-- the place of its line for each pair of a line
abbrev pub spread : List (List NdbPair) → List Spot → List Spot
spread [] places = []
spread (line ∷ lines) [] = []
spread (line ∷ lines) (place ∷ places) = map (λ pair. place) line ++ spread lines places

-- the places of all pairs in a row
abbrev pub pair_spots : List (List (List NdbPair)) → List Spot
pair_spots tuples = spread (flat_map (λ tuple. tuple) tuples) (all_lines 0 tuples)

-- the element with this number is in the list with that one
pub record Owns (ends : List ℕ) (number i : ℕ) : Type 0 where
  pub within : i < length ends
  pub begins : start_at 0 ends i ≤ number
  pub behind : number < get_or ends i 0
