use Rattle.std.proofs.Common.{◌≡◌, ℕ, ◌||◌, take}
use Rattle.ndb_search.specs.Prefixes.{covers}
use Rattle.ndb_index.specs.Nets.{is_covered}
use Rattle.ndb_index.proofs.networks.add_prefixes.Given as goal

abbrev pub invariant-loop-ip : goal.invariant-loop-ip
invariant-loop-ip l =
    (ip : ℕ) → covers l.prefixes ip ≡ (covers l.initial.prefixes ip || is_covered l.networks.entries l.bits (take l.ip-index l.ips) ip)
