-- What an index keeps of a database, and how many tuples are looked at.
use Rattle.std.specs.Prelude.{ℕ, ◌+◌, List, length, codes, Option}
use Rattle.net_base.specs.Ndb.{NdbPair}
use Rattle.net_base.specs.Search.{tuples_with}
use Rattle.net_base.specs.Networks.{own_networks}
use Rattle.ndb_search.specs.declared.prefixes.Prefix.{Prefix}
use Rattle.ndb_reader.specs.declared.chains.Chains.{Chains}
use Rattle.ndb_index.specs.Chained.{HasPairs}
use Rattle.ndb_index.specs.Nets.{HasPlaces, HasAllLengths}

-- the pairs, the networks and their lengths are those of the database
pub record IsIndex (db : List (List (List NdbPair))) (chains : Option Chains) (networks : List (Prefix × List ℕ)) (lengths : List ℕ) : Type 0 where
  pub pairs : HasPairs db chains
  pub places : HasPlaces db networks
  pub all_lengths : HasAllLengths lengths db

-- how many tuples contain a pair
abbrev pub found : List ℕ → List ℕ → List (List (List NdbPair)) → ℕ
found attr value db = length (tuples_with attr value db)

-- how many tuples a system has
abbrev pub own_count : List ℕ → List (List (List NdbPair)) → ℕ
own_count me db = found (codes "sys") me db

-- how many tuples are near a system: its own, and those of its networks
abbrev pub near_count : List ℕ → List (List (List NdbPair)) → ℕ
near_count me db = own_count me db + length (own_networks me db)
