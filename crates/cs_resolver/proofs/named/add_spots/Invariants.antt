use Rattle.std.proofs.Common.{◌+◌, ◌≤◌, take}
use Rattle.std.specs.Prelude.{flat_map}
use Rattle.ndb_search.specs.declared.tuple_numbers.Kind.TheVariants.{Address}
use Rattle.cs_resolver.specs.Gathering.{Gathers, TuplesRead, SpotsRead}
use Rattle.cs_resolver.specs.Probes.{numbers_at}
use Rattle.cs_resolver.proofs.named.add_spots.Given as goal

abbrev pub invariant-loop-spot : goal.invariant-loop-spot
invariant-loop-spot g l = record {
  ips : Gathers (flat_map (numbers_at l.index Address) (take l.spot-index l.spots)) l.initial.ips.items l.ips.items;
  tuples : TuplesRead l.index l.read.tuples.keys l.ips.items;
  spots : SpotsRead l.index l.read.spots.keys l.ips.items;
  cost : l.steps ≤ l.initial.steps + l.spot-index;
}
