use Rattle.std.proofs.Common.{◌≡◌, ℕ, nat_eq, take}
use Rattle.std.specs.List.{list_any}
use Rattle.ndb_search.specs.declared.prefixes.Prefix.{Prefix}
use Rattle.ndb_search.specs.Places.{tuple_places}
use Rattle.ndb_index.specs.Nets.{has_prefix, has_length, places_kept}
use Rattle.ndb_index.proofs.index.networks_of.Given as goal

abbrev pub invariant-loop-place : goal.invariant-loop-place
invariant-loop-place l =
    ((asked : Prefix) → places_kept asked l.networks.entries ≡ tuple_places (has_prefix asked) 0 (take l.place l.db))
    × ((bits : ℕ) → list_any (nat_eq bits) l.lengths.keys ≡ list_any (has_length bits) (take l.place l.db))
