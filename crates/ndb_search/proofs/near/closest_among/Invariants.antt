use Rattle.std.proofs.Common.{◌≡◌, None, take, map}
use Rattle.ndb_search.specs.Closest.{first_filled}
use Rattle.ndb_search.specs.Prefixes.{network_seen}
use Rattle.ndb_search.proofs.near.closest_among.Given as goal

abbrev pub invariant-loop-network : goal.invariant-loop-network
invariant-loop-network l =
    first_filled l.attr (map (λ network. network.tuple) (map network_seen (take l.network-index l.networks))) ≡ None
