use Rattle.std.proofs.Common.{List, map, slice_get, ap, ◌∙◌}
use Rattle.std.specs.Prelude.{filter_map}
use Rattle.net_base.specs.Search.{tuple_has}
use Rattle.net_base.specs.declared.ndb.spot.Spot.{Spot}
use Rattle.ndb_search.proofs.Shared.{places_found}
use Rattle.ndb_index.proofs.Nearby.{spots_are_places, all_found}
use Rattle.ndb_index.proofs.index.Index.search.Goals as goal

pub returns-clause-places : goal.returns-clause-places
returns-clause-places c =
    c.in_ok-places.ensures ∙ ap (λ (spots : List Spot). map (λ (spot : Spot). spot.place) spots) (c.deref.ensures.value ∙ c.in_ok-spots.ensures) ∙ spots_are_places c.args.attr.now c.args.value.now c.args.self.now

pub returns-clause-tuples : goal.returns-clause-tuples
returns-clause-tuples c =
    ap (filter_map (slice_get c.args.self.now))
    (c.in_ok-places.ensures ∙ ap (λ (spots : List Spot). map (λ (spot : Spot). spot.place) spots) (c.deref.ensures.value ∙ c.in_ok-spots.ensures) ∙ spots_are_places c.args.attr.now c.args.value.now c.args.self.now)
    ∙ places_found (tuple_has c.args.attr.now c.args.value.now) c.args.self.now

pub returns-clause-found : goal.returns-clause-found
returns-clause-found c =
    all_found c.args.attr.now c.args.value.now c.args.self.now c.in_ok-places.places
    (c.in_ok-places.ensures ∙ ap (λ (spots : List Spot). map (λ (spot : Spot). spot.place) spots) (c.deref.ensures.value ∙ c.in_ok-spots.ensures) ∙ spots_are_places c.args.attr.now c.args.value.now c.args.self.now)
