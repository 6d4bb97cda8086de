use Rattle.std.proofs.Common.{List, ℕ, None, Some, sym, ap, ◌∙◌, arith, subst}
use Rattle.std.specs.Prelude.{codes}
use Rattle.ndb_search.specs.Closest.{first_filled}
use Rattle.net_base.specs.declared.ndb.spot.Spot.{Spot}
use Rattle.ndb_index.specs.Near.{AreWithinNear, SpotsWithin, spot_tuples}
use Rattle.ndb_index.specs.Nets.{longest_places}
use Rattle.ndb_index.proofs.Nearby.{spots_within, longest_within, mine_cost, near_cost, met_are, closest_first, closest_second}
use Rattle.ndb_index.proofs.index.Index.closest_counted.Goals as goal

pub closest_of-requires : goal.closest_of-requires
closest_of-requires g c = subst (SpotsWithin c.args.self.now) (sym (c.deref.ensures.value ∙ c.in_ok-mine.ensures)) (spots_within (codes "sys") c.args.me.now c.args.self.now)

pub returns-in_err-values-clause-cost : goal.returns-in_err-values-clause-cost
returns-in_err-values-clause-cost g c = omega (arith, c.closest_of.ensures.cost, mine_cost c.args.me.now c.args.self.now c.deref.result.now (c.deref.ensures.value ∙ c.in_ok-mine.ensures))

pub returns-in-Some-clause-values : goal.returns-in-Some-clause-values
returns-in-Some-clause-values g c =
    closest_first c.args.attr.now c.args.me.now c.args.self.now c.in-Some.values
    (sym c.in-Some.is ∙ c.in_ok-values.ensures.values ∙ ap (λ (spots : List Spot). first_filled c.args.attr.now (spot_tuples c.args.self.now spots)) (c.deref.ensures.value ∙ c.in_ok-mine.ensures))

pub returns-in-Some-clause-cost : goal.returns-in-Some-clause-cost
returns-in-Some-clause-cost g c = omega (arith, c.closest_of.ensures.cost, mine_cost c.args.me.now c.args.self.now c.deref.result.now (c.deref.ensures.value ∙ c.in_ok-mine.ensures))

pub returns-in_err-places-clause-cost : goal.returns-in_err-places-clause-cost
returns-in_err-places-clause-cost g c = omega (arith, c.closest_of.ensures.cost, mine_cost c.args.me.now c.args.self.now c.deref.result.now (c.deref.ensures.value ∙ c.in_ok-mine.ensures))

pub closest_among-requires : goal.closest_among-requires
closest_among-requires g c = subst (AreWithinNear c.args.self.now) (sym (c.deref-3.ensures.value ∙ c.in_ok-places.ensures)) (longest_within c.deref-2.result.now c.args.self.now)

pub returns-in_err-values-2-clause-cost : goal.returns-in_err-values-2-clause-cost
returns-in_err-values-2-clause-cost g c =
    omega (
      arith,
      c.closest_of.ensures.cost,
      c.closest_among.ensures.cost,
      near_cost c.args.me.now c.args.self.now c.deref.result.now c.deref-3.result.now (c.deref.ensures.value ∙ c.in_ok-mine.ensures)
          (c.deref-3.ensures.value ∙ c.in_ok-places.ensures ∙ ap (λ (ips : List ℕ). longest_places ips c.args.self.now)
          (c.deref-2.ensures.value ∙ met_are c.args.me.now c.args.self.now c.deref.result.now c.new-ips.result.items c.closest_of.new.ips.items (c.deref.ensures.value ∙ c.in_ok-mine.ensures) c.new-ips.ensures.items (c.in_ok-values.ensures.ips c.in_default.is))),
    )

pub returns-in-Some-2-clause-values : goal.returns-in-Some-2-clause-values
returns-in-Some-2-clause-values g c =
    closest_second c.args.attr.now c.args.me.now c.args.self.now c.deref-2.result.now c.deref-3.result.now (Some c.in-Some-2.values)
    (sym c.in_default.is ∙ c.in_ok-values.ensures.values ∙ ap (λ (spots : List Spot). first_filled c.args.attr.now (spot_tuples c.args.self.now spots)) (c.deref.ensures.value ∙ c.in_ok-mine.ensures))
    (c.deref-2.ensures.value ∙ met_are c.args.me.now c.args.self.now c.deref.result.now c.new-ips.result.items c.closest_of.new.ips.items (c.deref.ensures.value ∙ c.in_ok-mine.ensures) c.new-ips.ensures.items (c.in_ok-values.ensures.ips c.in_default.is))
    (c.deref-3.ensures.value ∙ c.in_ok-places.ensures)
    (sym c.in-Some-2.is ∙ c.in_ok-values-2.ensures.values)

pub returns-in-Some-2-clause-cost : goal.returns-in-Some-2-clause-cost
returns-in-Some-2-clause-cost g c =
    omega (
      arith,
      c.closest_of.ensures.cost,
      c.closest_among.ensures.cost,
      near_cost c.args.me.now c.args.self.now c.deref.result.now c.deref-3.result.now (c.deref.ensures.value ∙ c.in_ok-mine.ensures)
          (c.deref-3.ensures.value ∙ c.in_ok-places.ensures ∙ ap (λ (ips : List ℕ). longest_places ips c.args.self.now)
          (c.deref-2.ensures.value ∙ met_are c.args.me.now c.args.self.now c.deref.result.now c.new-ips.result.items c.closest_of.new.ips.items (c.deref.ensures.value ∙ c.in_ok-mine.ensures) c.new-ips.ensures.items (c.in_ok-values.ensures.ips c.in_default.is))),
    )

pub returns-clause-values : goal.returns-clause-values
returns-clause-values g c =
    c.new.ensures
    ∙ closest_second c.args.attr.now c.args.me.now c.args.self.now c.deref-2.result.now c.deref-3.result.now None
    (sym c.in_default.is ∙ c.in_ok-values.ensures.values ∙ ap (λ (spots : List Spot). first_filled c.args.attr.now (spot_tuples c.args.self.now spots)) (c.deref.ensures.value ∙ c.in_ok-mine.ensures))
    (c.deref-2.ensures.value ∙ met_are c.args.me.now c.args.self.now c.deref.result.now c.new-ips.result.items c.closest_of.new.ips.items (c.deref.ensures.value ∙ c.in_ok-mine.ensures) c.new-ips.ensures.items (c.in_ok-values.ensures.ips c.in_default.is))
    (c.deref-3.ensures.value ∙ c.in_ok-places.ensures)
    (sym c.in-None.is ∙ c.in_ok-values-2.ensures.values)

pub returns-clause-cost : goal.returns-clause-cost
returns-clause-cost g c =
    omega (
      arith,
      c.closest_of.ensures.cost,
      c.closest_among.ensures.cost,
      near_cost c.args.me.now c.args.self.now c.deref.result.now c.deref-3.result.now (c.deref.ensures.value ∙ c.in_ok-mine.ensures)
          (c.deref-3.ensures.value ∙ c.in_ok-places.ensures ∙ ap (λ (ips : List ℕ). longest_places ips c.args.self.now)
          (c.deref-2.ensures.value ∙ met_are c.args.me.now c.args.self.now c.deref.result.now c.new-ips.result.items c.closest_of.new.ips.items (c.deref.ensures.value ∙ c.in_ok-mine.ensures) c.new-ips.ensures.items (c.in_ok-values.ensures.ips c.in_default.is))),
    )
