use Rattle.std.proofs.Common.{List, arith, subst}
use Rattle.std.specs.Prelude.{flat_map}
use Rattle.std.proofs.lemmas.List.{take_all}
use Rattle.net_base.specs.declared.ndb.spot.Spot.{Spot}
use Rattle.ndb_search.specs.declared.tuple_numbers.Kind.TheVariants.{Address}
use Rattle.cs_resolver.specs.Gathering.{Gathers}
use Rattle.cs_resolver.specs.Probes.{numbers_at}
use Rattle.cs_resolver.proofs.Gathered.{gathers_none, gathers_more}
use Rattle.cs_resolver.proofs.named.add_spots.Goals as goal

pub loop-spot-init : goal.loop-spot-init
loop-spot-init g c = record { ips = gathers_none c.args.ips.now.items; tuples = c.requires.tuples; spots = c.requires.spots; cost = omega arith }

pub add_spot-requires-clause-spot : goal.add_spot-requires-clause-spot
add_spot-requires-clause-spot g c = c.requires.each c.loop-spot.spot-index _ (omega arith)

pub loop-spot-preserved : goal.loop-spot-preserved
loop-spot-preserved g c = record {
  ips = gathers_more (numbers_at c.args.index.now Address) c.args.spots.now c.loop-spot.spot-index _ c.args.ips.now.items c.loop-spot.ips.items c.add_spot.new.ips.items (omega arith) c.loop-spot.invariant.ips c.in_ok-add_spot.ensures.ips;
  tuples = c.in_ok-add_spot.ensures.tuples;
  spots = c.in_ok-add_spot.ensures.spots;
  cost = omega (arith, c.loop-spot.invariant.cost, c.in_ok-add_spot.ensures.cost);
}

pub returns-clause-ips : goal.returns-clause-ips
returns-clause-ips g c =
    subst (λ (spots : List Spot). Gathers (flat_map (numbers_at c.args.index.now Address) spots) c.args.ips.now.items c.loop-spot.ips.items)
    (take_all c.loop-spot.spot-index c.args.spots.now (omega arith)) c.loop-spot.invariant.ips
