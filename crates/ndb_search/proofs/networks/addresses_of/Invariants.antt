use Rattle.std.proofs.Common.{◌≡◌, take}
use Rattle.net_base.specs.Networks.{addresses_of}
use Rattle.ndb_search.proofs.networks.addresses_of.Given as goal

abbrev pub invariant-loop-place : goal.invariant-loop-place
invariant-loop-place l = l.ips.items ≡ addresses_of l.me (take l.place l.db)
