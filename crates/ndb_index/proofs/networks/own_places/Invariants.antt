use Rattle.std.proofs.Common.{◌≡◌, ◌-◌}
use Rattle.std.specs.Prelude.{flat_map}
use Rattle.std.specs.List.{range_with_len}
use Rattle.ndb_index.specs.Nets.{HasPlaces, HasAllLengths, own_places}
use Rattle.ndb_index.proofs.Own.{Db}
use Rattle.ndb_index.proofs.networks.own_places.Given as goal

abbrev pub invariant-loop-ones : goal.invariant-loop-ones
invariant-loop-ones l =
    (db : Db) → HasPlaces db l.networks.entries → HasAllLengths l.lengths.keys db
    → l.own.items ≡ flat_map (λ ones. own_places (32 - ones) l.ips db) (range_with_len 0 l.ones)
