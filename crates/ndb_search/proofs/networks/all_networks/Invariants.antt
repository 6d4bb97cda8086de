use Rattle.std.proofs.Common.{◌≡◌, take, map}
use Rattle.std.specs.Prelude.{filter_map}
use Rattle.net_base.specs.Networks.{network_of}
use Rattle.ndb_search.specs.Prefixes.{network_seen}
use Rattle.ndb_search.proofs.networks.all_networks.Given as goal

abbrev pub invariant-loop-place : goal.invariant-loop-place
invariant-loop-place l = map network_seen l.networks.items ≡ filter_map network_of (take l.place l.db)
