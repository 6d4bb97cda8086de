-- Where a line connects to, as the resolver keeps it.
use Rattle.std.specs.Prelude.{◌≡◌, ℕ, ◌<◌, Bool, not, ◌||◌, List, ◌++◌, length, filter, map, flat_map, bytes_eq, codes}
use Rattle.net_base.specs.declared.address.Proto.{Proto}
use Rattle.net_base.specs.Ndb.{NdbPair}
use Rattle.net_base.specs.Addresses.{address_text}
use Rattle.net_base.specs.Cs.{proto_name, host_words, word_addresses, once_each}
use Rattle.ndb_search.specs.declared.prefixes.Prefix.{Prefix}
use Rattle.ndb_search.specs.Prefixes.{covers}
use Rattle.cs_resolver.specs.declared.line.Target.{Target}
use Rattle.cs_resolver.specs.declared.line.Target.TheVariants.{Any, Ip}

-- the word names the net
abbrev pub is_net_named : List ℕ → Proto → Bool
is_net_named word net = bytes_eq word (codes "net") || bytes_eq word (proto_name net)

-- the address as it is written
abbrev pub target_text : Target → List ℕ
target_text Any = codes "*"
target_text (Ip ip) = address_text ip

-- the addresses as they are written
abbrev pub target_texts : List Target → List (List ℕ)
target_texts targets = map target_text targets

-- some words name the host, and their addresses are these, each once
abbrev pub NamesHost : List (List (List NdbPair)) → List ℕ → List ℕ → List ℕ → Type 0
NamesHost db me host ips =
    (0 < length (host_words db me host))
    × (once_each ips ≡ once_each (flat_map (word_addresses db) (host_words db me host)))

-- addresses that the prefixes cover, and then the others, each in order
abbrev pub covered_first : List Prefix → List ℕ → List ℕ
covered_first prefixes ips = filter (covers prefixes) ips ++ filter (λ ip. not (covers prefixes ip)) ips
