-- Networks as the searches keep them, and the first bits that they share.
use Rattle.std.specs.Prelude.{◌≡◌, ℕ, ◌/◌, ◌-◌, ◌^◌, Bool, true, ◌&&◌, ◌==◌, nat_eq, List}
use Rattle.std.specs.List.{list_any}
use Rattle.net_base.specs.Networks as networks
use Rattle.ndb_search.specs.declared.network.Network.{Network}
use Rattle.ndb_search.specs.declared.prefixes.Prefix.{Prefix}

-- the network that is kept so
abbrev pub network_seen : Network → networks.Network
network_seen network = record { ip = network.ip; bits = network.bits; tuple = network.tuple }

-- the first so many bits of an address
abbrev pub first_bits : ℕ → ℕ → ℕ
first_bits bits ip = ip / 2 ^ (32 - bits)

-- the prefix of so many bits that an address has
abbrev pub prefix_of : ℕ → ℕ → Prefix
prefix_of bits ip = record { bits = bits; first = first_bits bits ip }

-- both are the same
abbrev pub same_prefix : Prefix → Prefix → Bool
same_prefix prefix other = prefix.bits == other.bits && prefix.first == other.first

-- the prefix is the one of so many bits that the address has
abbrev pub is_prefix : ℕ → ℕ → Prefix → Bool
is_prefix bits ip prefix = bits == prefix.bits && first_bits bits ip == prefix.first

-- the address has the prefix
abbrev pub is_on_prefix : ℕ → Prefix → Bool
is_on_prefix ip prefix = is_prefix prefix.bits ip prefix

-- the address has one of the prefixes
unfoldable pub covers : List Prefix → ℕ → Bool
covers prefixes ip = list_any (is_on_prefix ip) prefixes

-- the length of each prefix is among these
abbrev pub HasLengths : List ℕ → List Prefix → Type 0
HasLengths lengths prefixes =
    (bits : ℕ) → list_any (λ prefix. prefix.bits == bits) prefixes ≡ true → list_any (nat_eq bits) lengths ≡ true
