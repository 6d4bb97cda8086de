use Rattle.std.proofs.Common.{[], ◌∷◌, refl, sym, ap, ◌∙◌, arith, List, ℕ, get_or}
use Rattle.std.proofs.lemmas.List.{take_all}
use Rattle.std.proofs.lemmas.Bool.Decides.{nat_tests}
use Rattle.ndb_search.specs.Closest.{first_filled}
use Rattle.ndb_index.specs.Near.{tuples_at}
use Rattle.ndb_index.proofs.Nearby.{places_join, here_first, here_none, same_default}
use Rattle.ndb_index.proofs.index.Index.closest_among.Goals as goal

pub loop-place-init : goal.loop-place-init
loop-place-init g c = (refl, omega arith)

pub returns-then-len-ne0-clause-values : goal.returns-then-len-ne0-clause-values
returns-then-len-ne0-clause-values g c =
    let place = get_or c.args.places.now c.loop-place.place-index 0 in
    here_first c.args.attr.now (tuples_at c.args.self.now) (places_join c.args.self.now) c.args.places.now c.loop-place.place-index place c.at-tuple.result c.in_ok-values.values
    (omega arith) (same_default c.args.places.now c.loop-place.place-index 0 place (omega arith)) (ap (λ (t : _). t ∷ []) (sym c.at-tuple.ensures.tuple)) c.in_ok-values.ensures (grind (arith, nat_tests)) c.loop-place.invariant.0

pub loop-place-preserved : goal.loop-place-preserved
loop-place-preserved g c =
    let place = get_or c.args.places.now c.loop-place.place-index 0 in (
      here_none c.args.attr.now (tuples_at c.args.self.now) (places_join c.args.self.now) c.args.places.now c.loop-place.place-index place c.at-tuple.result c.in_ok-values.values
          (omega arith) (same_default c.args.places.now c.loop-place.place-index 0 place (omega arith)) (ap (λ (t : _). t ∷ []) (sym c.at-tuple.ensures.tuple)) c.in_ok-values.ensures (grind (arith, nat_tests)) c.loop-place.invariant.0,
      omega (arith, c.loop-place.invariant.1, c.at-tuple.ensures.cost),
    )

pub returns-clause-values : goal.returns-clause-values
returns-clause-values g c =
    sym (ap (λ (places : List ℕ). first_filled c.args.attr.now (tuples_at c.args.self.now places)) (sym (take_all c.loop-place.place-index c.args.places.now (omega arith)))
    ∙ c.loop-place.invariant.0)
