-- Tuples near a system, by their places.
use Rattle.std.specs.Prelude.{◌≡◌, ℕ, ◌<◌, List, [], length, map, flat_map, get_or}
use Rattle.net_base.specs.Ndb.{NdbPair}
use Rattle.net_base.specs.Search.{tuples_with}
use Rattle.ndb_search.specs.declared.tuple_numbers.Kind.TheVariants.{Address}
use Rattle.ndb_search.specs.Numbers.{numbers_in}
use Rattle.net_base.specs.declared.ndb.spot.Spot.{Spot}

-- the places are in the database
abbrev pub AreWithinNear : List (List (List NdbPair)) → List ℕ → Type 0
AreWithinNear db places = (i : ℕ) → i < length places → get_or places i 0 < length db

abbrev pub SpotsWithin : List (List (List NdbPair)) → List Spot → Type 0
SpotsWithin db spots = (i : ℕ) (d : Spot) → i < length spots → (get_or spots i d).place < length db

-- the tuples at places
abbrev pub tuples_at : List (List (List NdbPair)) → List ℕ → List (List (List NdbPair))
tuples_at db places = map (λ place. get_or db place []) places

-- the places are those of the tuples that contain a pair, in order, one for each
pub record FindsPlaces (db : List (List (List NdbPair))) (attr value places : List ℕ) : Type 0 where
  pub within : AreWithinNear db places
  pub tuples : tuples_at db places ≡ tuples_with attr value db
  pub count : length places ≡ length (tuples_with attr value db)

-- the tuples at spots
abbrev pub spot_tuples : List (List (List NdbPair)) → List Spot → List (List (List NdbPair))
spot_tuples db spots = map (λ spot. get_or db spot.place []) spots

-- the addresses in tuples
abbrev pub numbers_of : List (List (List NdbPair)) → List ℕ
numbers_of tuples = flat_map (numbers_in Address) tuples
