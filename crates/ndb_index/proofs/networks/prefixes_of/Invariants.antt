use Rattle.std.proofs.Common.{◌≡◌, ℕ, take}
use Rattle.std.specs.List.{list_any}
use Rattle.ndb_search.specs.Prefixes.{covers}
use Rattle.ndb_index.specs.Nets.{is_covered}
use Rattle.ndb_index.proofs.networks.prefixes_of.Given as goal

abbrev pub invariant-loop-bits : goal.invariant-loop-bits
invariant-loop-bits l =
    (ip : ℕ) → covers l.prefixes ip ≡ list_any (λ bits. is_covered l.networks.entries bits l.ips ip) (take l.bits-index l.bits-items)
