use Rattle.std.proofs.Common.{◌≡◌, ◌-◌, map}
use Rattle.std.specs.Prelude.{flat_map}
use Rattle.std.specs.List.{range_with_len}
use Rattle.ndb_search.specs.Prefixes.{network_seen}
use Rattle.ndb_search.specs.Own.{own_at}
use Rattle.ndb_search.proofs.networks.own_networks.Given as goal

abbrev pub invariant-loop-ones : goal.invariant-loop-ones
invariant-loop-ones l =
    map network_seen l.own.items
    ≡ flat_map (λ ones. own_at (32 - ones) l.ips.items (map network_seen l.networks.items)) (range_with_len 0 l.ones)
