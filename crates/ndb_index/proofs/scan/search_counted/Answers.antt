use Rattle.std.proofs.Common.{List, map, ap, ◌∙◌}
use Rattle.net_base.specs.declared.ndb.spot.Spot.{Spot}
use Rattle.ndb_index.proofs.Nearby.{spots_are_places, all_found}
use Rattle.ndb_index.proofs.scan.search_counted.Goals as goal

pub returns-clause-found : goal.returns-clause-found
returns-clause-found g c =
    all_found c.args.attr.now c.args.value.now c.args.tuples.now c.in_ok-places.places
    (c.in_ok-places.ensures ∙ ap (λ (spots : List Spot). map (λ (spot : Spot). spot.place) spots) (c.deref.ensures.value ∙ c.in_ok-spots.ensures.spots) ∙ spots_are_places c.args.attr.now c.args.value.now c.args.tuples.now)
