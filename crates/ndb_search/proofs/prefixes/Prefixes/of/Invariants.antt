use Rattle.std.proofs.Common.{◌≡◌, ℕ, take, map}
use Rattle.net_base.specs.Networks.{is_on}
use Rattle.ndb_search.specs.Prefixes.{network_seen, covers}
use Rattle.ndb_search.proofs.prefixes.Prefixes.of.Given as goal

abbrev pub invariant-loop-network : goal.invariant-loop-network
invariant-loop-network l = (ip : ℕ) → covers l.prefixes ip ≡ is_on (map network_seen (take l.network-index l.networks)) ip
