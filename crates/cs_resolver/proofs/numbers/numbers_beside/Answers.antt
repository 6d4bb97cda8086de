use Rattle.std.proofs.Common.{List, ℕ, ◌++◌, sym, ap, ◌∙◌, arith, subst, length}
use Rattle.std.specs.Prelude.{flat_map}
use Rattle.net_base.specs.declared.ndb.spot.Spot.{Spot}
use Rattle.ndb_index.proofs.Shared.{spots_count}
use Rattle.cs_resolver.specs.Probes.{AreSpots, numbers_at}
use Rattle.cs_resolver.proofs.AtSpots.{spots_are_spots, spots_numbers}
use Rattle.cs_resolver.proofs.numbers.numbers_beside.Goals as goal

pub add_all-requires : goal.add_all-requires
add_all-requires g c = subst (AreSpots c.args.index.now) (sym (c.deref.ensures.value ∙ c.in_ok-spots.ensures)) (spots_are_spots c.args.attr.now c.args.value.now c.args.index.now)

pub returns-in_err-add_all-clause-cost : goal.returns-in_err-add_all-clause-cost
returns-in_err-add_all-clause-cost g c =
    omega (arith, c.add_all.ensures.cost, ap (λ (spots : List Spot). length spots) (c.deref.ensures.value ∙ c.in_ok-spots.ensures), spots_count c.args.attr.now c.args.value.now c.args.index.now)

pub returns-clause-numbers : goal.returns-clause-numbers
returns-clause-numbers g c =
    c.in_ok-add_all.ensures.numbers
    ∙ ap (λ (front : List ℕ). front ++ flat_map (numbers_at c.args.index.now c.args.kind) c.deref.result.now) c.new-numbers.ensures.items
    ∙ ap (λ (spots : List Spot). flat_map (numbers_at c.args.index.now c.args.kind) spots) (c.deref.ensures.value ∙ c.in_ok-spots.ensures)
    ∙ spots_numbers c.args.attr.now c.args.value.now c.args.kind c.args.index.now

pub returns-clause-cost : goal.returns-clause-cost
returns-clause-cost g c =
    omega (arith, c.add_all.ensures.cost, ap (λ (spots : List Spot). length spots) (c.deref.ensures.value ∙ c.in_ok-spots.ensures), spots_count c.args.attr.now c.args.value.now c.args.index.now)
