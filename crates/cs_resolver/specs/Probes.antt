-- How many tuples an answer looks at, at most, and what it reads at spots.
use Rattle.std.specs.Prelude.{ℕ, ◌+◌, ◌*◌, ◌<◌, List, [], length, get_or, if◌then◌else◌}
use Rattle.std.specs.List.{sum_by}
use Rattle.std.specs.Option.{option_map_or}
use Rattle.net_base.specs.Ndb.{NdbPair}
use Rattle.net_base.specs.declared.address.Proto.{Proto}
use Rattle.net_base.specs.Addresses.{read_port}
use Rattle.net_base.specs.Cs.{Query, read_query, nets_of, host_words, is_any, is_numeric, name_attr, proto_name}
use Rattle.ndb_search.specs.declared.tuple_numbers.Kind.{Kind}
use Rattle.ndb_search.specs.Numbers.{numbers_near}
use Rattle.net_base.specs.declared.ndb.spot.Spot.{Spot}
use Rattle.ndb_index.specs.Index.{found, near_count}

-- The bound.

-- how many tuples the search for a word of the host finds
abbrev pub word_found : List (List (List NdbPair)) → List ℕ → ℕ
word_found db word = if is_numeric word then 0 else found (name_attr word) word db

-- how many tuples the searches for all words of the host find
abbrev pub host_found : List (List (List NdbPair)) → List ℕ → List ℕ → ℕ
host_found db me host = if is_any host then 0 else sum_by (word_found db) (host_words db me host)

-- how many tuples the search for the service of a net finds
abbrev pub service_found : List (List (List NdbPair)) → List ℕ → Proto → ℕ
service_found db service net = option_map_or (λ port. 0) (read_port service) (found (proto_name net) service db)

-- how many tuples all searches find together
abbrev pub query_found : List (List (List NdbPair)) → List ℕ → List Proto → Query → ℕ
query_found db me nets query =
    host_found db me query.host + sum_by (service_found db query.service) (nets_of nets query.net)

-- how many tuples are looked at, at most: twice those near the asker, and those that the searches find
abbrev pub most_probes : List (List (List NdbPair)) → List ℕ → List Proto → List ℕ → ℕ
most_probes db me nets text = 2 * near_count me db + option_map_or (query_found db me nets) (read_query text) 0

-- What is read.

-- the tuple and the line are in the database
abbrev pub IsSpot : List (List (List NdbPair)) → Spot → Type 0
IsSpot db spot = (spot.place < length db) × (spot.line < length (get_or db spot.place []))

abbrev pub AreSpots : List (List (List NdbPair)) → List Spot → Type 0
AreSpots db spots = (i : ℕ) (d : Spot) → i < length spots → IsSpot db (get_or spots i d)

-- the numbers of a kind beside the pair that stands at a spot
abbrev pub numbers_at : List (List (List NdbPair)) → Kind → Spot → List ℕ
numbers_at db kind spot = numbers_near kind (get_or (get_or db spot.place []) spot.line []) (get_or db spot.place [])
