use Rattle.std.proofs.Common.{List, ℕ, ap, ◌∙◌, arith}
use Rattle.std.specs.Prelude.{flat_map}
use Rattle.std.proofs.lemmas.List.{take_all}
use Rattle.net_base.specs.Search.{beside}
use Rattle.ndb_index.specs.Near.{tuples_at}
use Rattle.ndb_index.proofs.Behind.{values_more}
use Rattle.ndb_index.proofs.found.place_values.Goals as goal

pub loop-place-preserved : goal.loop-place-preserved
loop-place-preserved g c = (
  values_more (beside c.args.attr.now c.args.value.now c.args.other.now) c.args.tuples.now c.args.places.now c.loop-place.place-index _ (beside c.args.attr.now c.args.value.now c.args.other.now c.at-tuple.result) c.loop-place.values c.add_beside.new.values
      (omega arith) (ap (beside c.args.attr.now c.args.value.now c.args.other.now) c.at-tuple.ensures.tuple) c.loop-place.invariant.0 c.in_ok-add_beside.ensures,
  omega (arith, c.loop-place.invariant.1, c.at-tuple.ensures.cost),
)

pub returns-clause-values : goal.returns-clause-values
returns-clause-values g c =
    c.loop-place.invariant.0
    ∙ ap (λ (places : List ℕ). flat_map (beside c.args.attr.now c.args.value.now c.args.other.now) (tuples_at c.args.tuples.now places)) (take_all c.loop-place.place-index c.args.places.now (omega arith))
