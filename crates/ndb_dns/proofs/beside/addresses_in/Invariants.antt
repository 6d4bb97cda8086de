use Rattle.std.proofs.Common.{◌≡◌, take}
use Rattle.std.specs.Prelude.{filter_map}
use Rattle.net_base.specs.Addresses.{read_address}
use Rattle.net_base.specs.Cs.{once_each}
use Rattle.ndb_dns.proofs.beside.addresses_in.Given as goal

abbrev pub invariant-loop-value : goal.invariant-loop-value
invariant-loop-value l = l.ips.keys ≡ once_each (filter_map read_address (take l.value-index l.values))
