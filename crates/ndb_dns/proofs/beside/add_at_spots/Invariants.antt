use Rattle.std.proofs.Common.{◌≡◌, ◌+◌, ◌≤◌, ◌++◌, take}
use Rattle.std.specs.Prelude.{flat_map}
use Rattle.net_base.specs.Search.{beside}
use Rattle.ndb_index.specs.Near.{spot_tuples}
use Rattle.ndb_dns.proofs.beside.add_at_spots.Given as goal

abbrev pub invariant-loop-spot : goal.invariant-loop-spot
invariant-loop-spot g l = record {
  values : l.values ≡ l.initial.values ++ flat_map (beside l.attr l.value l.other) (spot_tuples l.index (take l.spot-index l.spots));
  cost : l.steps ≤ l.initial.steps + l.spot-index;
}
