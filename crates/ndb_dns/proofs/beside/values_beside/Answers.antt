use Rattle.std.proofs.Common.{List, ℕ, ◌++◌, sym, ap, ◌∙◌, arith, subst}
use Rattle.std.specs.Prelude.{flat_map}
use Rattle.net_base.specs.Search.{beside}
use Rattle.ndb_index.specs.Near.{SpotsWithin, spot_tuples}
use Rattle.ndb_index.proofs.Shared.{spots_within}
use Rattle.ndb_dns.proofs.Parts.{spots_cost, values_are}
use Rattle.ndb_dns.proofs.beside.values_beside.Goals as goal

pub add_at_spots-requires : goal.add_at_spots-requires
add_at_spots-requires g c = subst (SpotsWithin c.args.index.now) (sym (c.deref.ensures.value ∙ c.in_ok-spots.ensures)) (spots_within c.args.attr.now c.args.value.now c.args.index.now)

pub returns-in_err-add_at_spots-clause-cost : goal.returns-in_err-add_at_spots-clause-cost
returns-in_err-add_at_spots-clause-cost g c =
    omega (arith, c.add_at_spots.ensures.cost, spots_cost c.args.attr.now c.args.value.now c.args.index.now c.deref.result.now (c.deref.ensures.value ∙ c.in_ok-spots.ensures))

pub returns-clause-values : goal.returns-clause-values
returns-clause-values g c =
    c.in_ok-add_at_spots.ensures.values
    ∙ ap (λ (front : List (List ℕ)). front ++ flat_map (beside c.args.attr.now c.args.value.now c.args.other.now) (spot_tuples c.args.index.now c.deref.result.now)) c.new-values.ensures
    ∙ values_are c.args.attr.now c.args.value.now c.args.other.now c.args.index.now c.deref.result.now (c.deref.ensures.value ∙ c.in_ok-spots.ensures)

pub returns-clause-cost : goal.returns-clause-cost
returns-clause-cost g c =
    omega (arith, c.add_at_spots.ensures.cost, spots_cost c.args.attr.now c.args.value.now c.args.index.now c.deref.result.now (c.deref.ensures.value ∙ c.in_ok-spots.ensures))
