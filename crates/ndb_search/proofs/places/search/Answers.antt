use Rattle.std.proofs.Common.{◌≡◌, ◌++◌, sym, ap, ◌∙◌, arith, append-nil, slice_get}
use Rattle.std.specs.Prelude.{filter_map}
use Rattle.std.proofs.lemmas.List.{at_drop_all}
use Rattle.net_base.specs.Search.{tuple_has}
use Rattle.ndb_search.specs.Places.{tuple_places, places_with}
use Rattle.ndb_search.proofs.Found.{places_found}
use Rattle.ndb_search.proofs.places.search.Goals as goal

pub returns-clause-tuples : goal.returns-clause-tuples
returns-clause-tuples c =
    let db = c.args.db.now in
    let all : c.loop-place.places ≡ places_with c.args.attr.now c.args.value.now db =
    sym (c.loop-place.invariant
    ∙ ap (λ ps. c.loop-place.places ++ ps) (at_drop_all (tuple_places (tuple_has c.args.attr.now c.args.value.now) c.loop-place.place) db c.loop-place.place (omega (arith, c.loop-place-test.false, c.len-place-end.ensures)))
    ∙ append-nil c.loop-place.places) in
    ap (filter_map (slice_get db)) all ∙ places_found (tuple_has c.args.attr.now c.args.value.now) db
