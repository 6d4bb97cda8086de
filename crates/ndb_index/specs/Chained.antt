-- All pairs of a database, in chains by their buckets.
use Rattle.std.specs.Prelude.{◌≡◌, ℕ, ◌+◌, ◌/◌, ◌==◌, List, map, length, Option, Some, None, ⊤}
use Rattle.std.specs.List.{filter}
use Rattle.net_base.specs.Ndb.{NdbPair}
use Rattle.net_base.specs.Store.{all_pairs}
use Rattle.ndb_reader.specs.declared.chains.Chains.{Chains}
use Rattle.ndb_reader.specs.Chains.{width_of, AreChains}
use Rattle.ndb_index.specs.Hashing.{bucket_of_pair, pair_bucket}

-- how many buckets there are for the pairs of a database: about a quarter as many
abbrev pub width_for : List (List (List NdbPair)) → ℕ
width_for db = length (all_pairs db) / 4 + 1

-- how many pairs of a database have a pair's bucket
abbrev pub alike : List ℕ → List ℕ → List (List (List NdbPair)) → ℕ
alike attr value db = length (filter (λ pair. pair_bucket (width_for db) pair == bucket_of_pair (width_for db) attr value) (all_pairs db))

-- the chains hold all pairs in a row by their buckets
pub record AreByPair (db : List (List (List NdbPair))) (chains : Chains) : Type 0 where
  pub width : width_of chains ≡ width_for db
  pub are : AreChains chains (map (pair_bucket (width_for db)) (all_pairs db))

-- chains that hold all pairs, where there are chains
abbrev pub HasPairs : List (List (List NdbPair)) → Option Chains → Type 0
HasPairs db None = ⊤
HasPairs db (Some chains) = AreByPair db chains

-- how many pairs are looked at for one: those with its bucket, or where there are no chains all
abbrev pub looks : List ℕ → List ℕ → List (List (List NdbPair)) → Option Chains → ℕ
looks attr value db None = length (all_pairs db)
looks attr value db (Some chains) = alike attr value db
