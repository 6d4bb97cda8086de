use Rattle.std.proofs.Common.{List, ◌++◌, sym, ap, ◌∙◌, arith, append-nil}
use Rattle.std.specs.Prelude.{flat_map}
use Rattle.std.proofs.lemmas.List.{take_all}
use Rattle.net_base.specs.Search.{beside}
use Rattle.net_base.specs.declared.ndb.spot.Spot.{Spot}
use Rattle.ndb_index.specs.Near.{spot_tuples}
use Rattle.ndb_dns.proofs.Parts.{values_more}
use Rattle.ndb_dns.proofs.beside.add_at_spots.Goals as goal

pub loop-spot-init : goal.loop-spot-init
loop-spot-init g c = record { values = sym (append-nil c.args.values.now); cost = omega arith }

pub at-tuple-requires : goal.at-tuple-requires
at-tuple-requires g c = c.requires c.loop-spot.spot-index _ (omega arith)

pub loop-spot-preserved : goal.loop-spot-preserved
loop-spot-preserved g c = record {
  values = values_more c.args.attr.now c.args.value.now c.args.other.now c.args.index.now c.args.spots.now c.loop-spot.spot-index _ c.at-tuple.result c.args.values.now c.loop-spot.values _ (omega arith) c.at-tuple.ensures.tuple c.loop-spot.invariant.values c.in_ok-add_beside.ensures;
  cost = omega (arith, c.loop-spot.invariant.cost, c.at-tuple.ensures.cost);
}

pub returns-clause-values : goal.returns-clause-values
returns-clause-values g c =
    c.loop-spot.invariant.values
    ∙ ap (λ (spots : List Spot). c.args.values.now ++ flat_map (beside c.args.attr.now c.args.value.now c.args.other.now) (spot_tuples c.args.index.now spots))
    (take_all c.loop-spot.spot-index c.args.spots.now (omega arith))
