use Rattle.std.proofs.Common.{List, ℕ, length, ap, sym, subst, ◌∙◌, arith}
use Rattle.std.specs.Prelude.{flat_map}
use Rattle.net_base.specs.Ndb.{NdbPair}
use Rattle.net_base.specs.Search.{beside}
use Rattle.ndb_index.specs.Near.{AreWithinNear, tuples_at}
use Rattle.ndb_index.proofs.found.beside_counted.Goals as goal

pub place_values-requires : goal.place_values-requires
place_values-requires g c = subst (AreWithinNear c.args.tuples.now) (sym c.as_slice.ensures) c.in_ok-places.ensures.within

pub returns-clause-values : goal.returns-clause-values
returns-clause-values g c =
    c.in_ok-values.ensures.values
    ∙ ap (λ (places : List ℕ). flat_map (beside c.args.attr.now c.args.value.now c.args.other.now) (tuples_at c.args.tuples.now places)) c.as_slice.ensures
    ∙ ap (λ (tuples : List (List (List NdbPair))). flat_map (beside c.args.attr.now c.args.value.now c.args.other.now) tuples) c.in_ok-places.ensures.tuples

pub returns-clause-cost : goal.returns-clause-cost
returns-clause-cost g c =
    omega (arith, c.place_values.ensures.cost, ap (λ (places : List ℕ). length places) c.as_slice.ensures, c.in_ok-places.ensures.count)

pub returns-in_err-values-clause-cost : goal.returns-in_err-values-clause-cost
returns-in_err-values-clause-cost g c =
    omega (arith, c.place_values.ensures.cost, ap (λ (places : List ℕ). length places) c.as_slice.ensures, c.in_ok-places.ensures.count)
