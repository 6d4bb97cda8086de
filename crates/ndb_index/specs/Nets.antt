-- Networks by their first bits, and what an index keeps of them.
use Rattle.std.specs.Prelude.{◌≡◌, ℕ, ◌-◌, Bool, false, ◌&&◌, ◌==◌, List, [], ◌∷◌, ◌++◌, nat_eq, Option, unwrap_or, flat_map, if◌then◌else◌}
use Rattle.std.specs.Option.{option_map_or}
use Rattle.std.specs.List.{list_any, range_with_len}
use Rattle.std.specs.Map.{lookup}
use Rattle.net_base.specs.Ndb.{NdbPair}
use Rattle.net_base.specs.Networks.{network_of, contains_address, is_filled}
use Rattle.ndb_search.specs.declared.prefixes.Prefix.{Prefix}
use Rattle.ndb_search.specs.Prefixes.{is_prefix, is_on_prefix, same_prefix, prefix_of}
use Rattle.ndb_search.specs.Places.{tuple_places}

abbrev pub prefix : ℕ → ℕ → Prefix
prefix bits first = record { bits = bits; first = first }

-- What is kept of the networks.

-- the tuple describes a network with this prefix
abbrev pub has_prefix : Prefix → List (List NdbPair) → Bool
has_prefix asked tuple = option_map_or (λ network. is_prefix network.bits network.ip asked) (network_of tuple) false

-- the tuple describes a network with so many bits
abbrev pub has_length : ℕ → List (List NdbPair) → Bool
has_length bits tuple = option_map_or (λ network. network.bits == bits) (network_of tuple) false

-- the places by a prefix, if any were kept
abbrev pub places_found : Prefix → List (Prefix × List ℕ) → Option (List ℕ)
places_found asked networks = lookup (same_prefix asked) networks

-- the places by a prefix
abbrev pub places_kept : Prefix → List (Prefix × List ℕ) → List ℕ
places_kept asked networks = unwrap_or (places_found asked networks) []

-- the places of a prefix after one that has it, or another
abbrev pub place_noted : Bool → ℕ → List ℕ → List ℕ
place_noted has place places = if has then places ++ place ∷ [] else places

-- by each prefix are kept the places of the networks of a database that have it
abbrev pub HasPlaces : List (List (List NdbPair)) → List (Prefix × List ℕ) → Type 0
HasPlaces db networks = (asked : Prefix) → places_kept asked networks ≡ tuple_places (has_prefix asked) 0 db

-- the lengths of all networks of a database are among these
abbrev pub HasAllLengths : List ℕ → List (List (List NdbPair)) → Type 0
HasAllLengths lengths db =
    (bits : ℕ) → list_any (nat_eq bits) lengths ≡ list_any (has_length bits) db

-- A system's own networks.

-- an address is on a network that is kept, with so many bits, and that contains one of the others
abbrev pub is_covered : List (Prefix × List ℕ) → ℕ → List ℕ → ℕ → Bool
is_covered networks bits ips ip =
    list_any (λ own. is_filled (places_kept (prefix_of bits own) networks) && is_on_prefix ip (prefix_of bits own)) ips

-- the place is one of these
abbrev pub is_place_among : ℕ → List ℕ → Bool
is_place_among place places = list_any (nat_eq place) places

-- the tuple describes a network with so many bits that contains one of the addresses
abbrev pub is_own_network : ℕ → List ℕ → List (List NdbPair) → Bool
is_own_network bits ips tuple =
    option_map_or (λ network. network.bits == bits && list_any (contains_address network) ips) (network_of tuple) false

-- the places of such tuples
abbrev pub own_places : ℕ → List ℕ → List (List (List NdbPair)) → List ℕ
own_places bits ips db = tuple_places (is_own_network bits ips) 0 db

-- the places of the networks that contain one of the addresses, those with the longest mask first
abbrev pub longest_places : List ℕ → List (List (List NdbPair)) → List ℕ
longest_places ips db = flat_map (λ ones. own_places (32 - ones) ips db) (range_with_len 0 33)
