use Rattle.std.proofs.Common.{sym, ap, ◌∙◌}
use Rattle.net_base.specs.Search.{is_pair}
use Rattle.net_base.specs.Spots.{pair_spots}
use Rattle.net_base.specs.declared.ndb.spot.Spot.{Spot}
use Rattle.std.proofs.Common.{get_or, Bool}
use Rattle.ndb_index.specs.Kept.{spots_noted, with_spot}
use Rattle.ndb_index.proofs.pairs.add_found.Goals as goal

pub returns-then-not-is-clause-noted : goal.returns-then-not-is-clause-noted
returns-then-not-is-clause-noted g c = λ p s.
    sym (ap (λ (b : Bool). spots_noted b (get_or (pair_spots c.args.tuples.now) c.args.number s) c.args.spots.now.items)
    (ap (is_pair c.args.attr.now c.args.value.now) (sym (c.pair.ensures.pair p)) ∙ (sym c.is.ensures ∙ c.if-not-is.true)))

pub returns-clause-noted : goal.returns-clause-noted
returns-clause-noted g c = λ p s.
    c.in_ok-add_spot.ensures
    ∙ ap (λ (spot : Spot). with_spot spot c.args.spots.now.items) (c.spot.ensures s)
    ∙ sym (ap (λ (b : Bool). spots_noted b (get_or (pair_spots c.args.tuples.now) c.args.number s) c.args.spots.now.items)
    (ap (is_pair c.args.attr.now c.args.value.now) (sym (c.pair.ensures.pair p)) ∙ (sym c.is.ensures ∙ c.if-not-is.false)))
