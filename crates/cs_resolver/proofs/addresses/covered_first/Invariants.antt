use Rattle.std.proofs.Common.{◌≡◌, ◌++◌, not, take}
use Rattle.std.specs.Prelude.{filter}
use Rattle.ndb_search.specs.Prefixes.{covers}
use Rattle.cs_resolver.proofs.addresses.covered_first.Given as goal

abbrev pub invariant-loop-ip : goal.invariant-loop-ip
invariant-loop-ip l = l.sorted.items ≡ filter (covers l.prefixes) (take l.ip-index l.ips)

abbrev pub invariant-loop-ip-2 : goal.invariant-loop-ip-2
invariant-loop-ip-2 l =
    l.sorted.items
    ≡ filter (covers l.prefixes) l.ips ++ filter (λ ip. not (covers l.prefixes ip)) (take l.ip-index l.ips)
