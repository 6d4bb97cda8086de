use Rattle.std.proofs.Common.{◌≡◌, ℕ, take, nat_eq, ◌==◌}
use Rattle.std.specs.List.{list_any}
use Rattle.ndb_search.specs.Prefixes.{first_bits}
use Rattle.ndb_search.proofs.network.firsts_of.Given as goal

abbrev pub invariant-loop-ip : goal.invariant-loop-ip
invariant-loop-ip l = (first : ℕ) → list_any (nat_eq first) l.firsts.keys ≡ list_any (λ ip. first_bits l.bits ip == first) (take l.ip-index l.ips)
