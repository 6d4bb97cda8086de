use Rattle.std.proofs.Common.{◌≡◌, ◌++◌, take, map}
use Rattle.ndb_search.specs.Prefixes.{network_seen}
use Rattle.ndb_search.specs.Own.{own_at}
use Rattle.ndb_search.proofs.networks.add_own.Given as goal

abbrev pub invariant-loop-network : goal.invariant-loop-network
invariant-loop-network l =
    map network_seen l.own.items
    ≡ map network_seen l.initial.own.items ++ own_at l.bits l.ips (map network_seen (take l.network-index l.networks))
