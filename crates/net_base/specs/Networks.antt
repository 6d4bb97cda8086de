-- The networks that the database describes, those of one system, and the values that are closest to it.
use Rattle.std.specs.Prelude.{ℕ, ◌-◌, ◌/◌, ◌^◌, Bool, ◌==◌, nat_lt, List, [], ◌++◌, length, map, filter, filter_map, flat_map, find, slice_get, Option, None, unwrap_or, option_map, option_and_then, if◌then◌else◌, codes}
use Rattle.std.specs.List.{list_any, range_with_len}
use Rattle.net_base.specs.Ndb.{NdbPair}
use Rattle.net_base.specs.Search.{has_attr, tuples_with, values_in}
use Rattle.net_base.specs.Addresses.{read_address}

-- the first of a list, if there is one
abbrev pub first_of : {X : Type 0} → List X → Option X
first_of xs = slice_get xs 0

-- the addresses of a system: the `ip` values of its tuples
abbrev pub addresses_of : List ℕ → List (List (List NdbPair)) → List ℕ
addresses_of me db = filter_map read_address (flat_map (values_in (codes "ip")) (tuples_with (codes "sys") me db))

-- a network: an address, how many of its first bits the network shares, and the tuple that says so
pub record Network : Type 0 where
  pub ip : ℕ
  pub bits : ℕ
  pub tuple : List (List NdbPair)

-- the mask whose ones are its first so many bits
abbrev pub mask_of : ℕ → ℕ
mask_of bits = 2 ^ 32 - 2 ^ (32 - bits)

-- how many ones a mask has, where they are a prefix
abbrev pub mask_bits : ℕ → Option ℕ
mask_bits mask = find (λ bits. mask_of bits == mask) (range_with_len 0 33)

-- the bits of a mask that is written as an address
abbrev pub read_mask : List ℕ → Option ℕ
read_mask word = option_and_then mask_bits (read_address word)

-- the bits of the mask that goes with an address by its first byte
abbrev pub class_bits : ℕ → ℕ
class_bits ip = if nat_lt (ip / 2 ^ 24) 128 then 8 else (if nat_lt (ip / 2 ^ 24) 192 then 16 else 24)

-- the bits of a tuple's first mask, else of the mask that goes with the address
abbrev pub bits_of : ℕ → List (List NdbPair) → ℕ
bits_of ip tuple = unwrap_or (first_of (filter_map read_mask (values_in (codes "ipmask") tuple))) (class_bits ip)

-- the attribute stands in the tuple
abbrev pub tuple_names : List ℕ → List (List NdbPair) → Bool
tuple_names attr tuple = list_any (list_any (has_attr attr)) tuple

-- the network of a tuple with `ipnet` and an address as `ip`, which is the first such address
abbrev pub network_of : List (List NdbPair) → Option Network
network_of tuple =
    if tuple_names (codes "ipnet") tuple
    then option_map (λ ip. record { ip = ip; bits = bits_of ip tuple; tuple = tuple })
    (first_of (filter_map read_address (values_in (codes "ip") tuple)))
    else None

-- two addresses have the same first bits
abbrev pub same_first : ℕ → ℕ → ℕ → Bool
same_first bits ip other = ip / 2 ^ (32 - bits) == other / 2 ^ (32 - bits)

-- the network contains the address
abbrev pub contains_address : Network → ℕ → Bool
contains_address network ip = same_first network.bits network.ip ip

-- a system's own networks, in order: those that contain one of its addresses
abbrev pub own_networks : List ℕ → List (List (List NdbPair)) → List Network
own_networks me db =
    filter (λ network. list_any (contains_address network) (addresses_of me db)) (filter_map network_of db)

-- the address is on one of these networks
abbrev pub is_on : List Network → ℕ → Bool
is_on networks ip = list_any (λ network. contains_address network ip) networks

-- the networks with the longest mask first, and those with equal masks in order
abbrev pub longest_first : List Network → List Network
longest_first networks =
    flat_map (λ ones. filter (λ network. network.bits == 32 - ones) networks) (range_with_len 0 33)

-- the value has bytes
abbrev pub is_filled : {X : Type 0} → List X → Bool
is_filled bytes = nat_lt 0 (length bytes)

-- the tuples that are asked for what is closest to a system: its own, and those of its networks
abbrev pub tuples_near : List ℕ → List (List (List NdbPair)) → List (List (List NdbPair))
tuples_near me db =
    tuples_with (codes "sys") me db ++ map (λ network. network.tuple) (longest_first (own_networks me db))

-- the values of an attribute, without empty ones, of the first tuple near the system that has any
abbrev pub closest : List ℕ → List ℕ → List (List (List NdbPair)) → List (List ℕ)
closest attr me db =
    unwrap_or (find is_filled (map (λ tuple. filter is_filled (values_in attr tuple)) (tuples_near me db))) []
