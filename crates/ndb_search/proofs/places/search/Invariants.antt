use Rattle.std.proofs.Common.{◌≡◌, ◌++◌, drop}
use Rattle.net_base.specs.Search.{tuple_has}
use Rattle.ndb_search.specs.Places.{tuple_places}
use Rattle.ndb_search.proofs.places.search.Given as goal

abbrev pub invariant-loop-place : goal.invariant-loop-place
invariant-loop-place l =
    tuple_places (tuple_has l.attr l.value) 0 l.db ≡ l.places ++ tuple_places (tuple_has l.attr l.value) l.place (drop l.place l.db)
