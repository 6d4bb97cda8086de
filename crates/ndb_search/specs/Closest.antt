-- What is closest to a system, by tuples that are asked in turn.
use Rattle.std.specs.Prelude.{ℕ, List, map, filter, find, Option}
use Rattle.net_base.specs.Ndb.{NdbPair}
use Rattle.net_base.specs.Search.{values_in}
use Rattle.net_base.specs.Networks.{is_filled}

-- the values of an attribute, without empty ones, of the first of these tuples that has any
abbrev pub first_filled : List ℕ → List (List (List NdbPair)) → Option (List (List ℕ))
first_filled attr tuples = find is_filled (map (λ tuple. filter is_filled (values_in attr tuple)) tuples)
