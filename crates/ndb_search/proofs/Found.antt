-- Places stand for the tuples that pass a test.
use Rattle.std.proofs.Common.{◌≡◌, ℕ, ◌+◌, Bool, true, false, cond, List, [], ◌∷◌, ◌++◌, length, refl, sym, ap, ◌∙◌, Some, arith, append_assoc, length-append, slice_get}
use Rattle.std.specs.Prelude.{filter, filter_map}
use Rattle.std.specs.List.{cons_option}
use Rattle.net_base.specs.Ndb.{NdbPair}
use Rattle.ndb_search.specs.Places.{tuple_places}

get_behind : (before : List (List (List NdbPair))) (tuple : List (List NdbPair)) (db : List (List (List NdbPair))) → slice_get (before ++ tuple ∷ db) (length before) ≡ Some tuple
get_behind [] tuple db = refl
get_behind (t ∷ before) tuple db = get_behind before tuple db

found_from : (test : List (List NdbPair) → Bool) (before db : List (List (List NdbPair))) (n : ℕ) → n ≡ length before → filter_map (slice_get (before ++ db)) (tuple_places test n db) ≡ filter test db
found_from test before [] n e = refl
found_from test before (tuple ∷ db) n e =
    at (test tuple)
    (ap (λ all. filter_map (slice_get all) (tuple_places test (n + 1) db)) (sym (append_assoc before (tuple ∷ []) db))
    ∙ found_from test (before ++ tuple ∷ []) db (n + 1) (omega (arith, e, length-append before (tuple ∷ []))))
  where
    at : (b : Bool) → filter_map (slice_get (before ++ tuple ∷ db)) (tuple_places test (n + 1) db) ≡ filter test db → filter_map (slice_get (before ++ tuple ∷ db)) (cond b (n ∷ tuple_places test (n + 1) db) (tuple_places test (n + 1) db)) ≡ cond b (tuple ∷ filter test db) (filter test db)
    at true rest =
        ap (λ o. cons_option o (filter_map (slice_get (before ++ tuple ∷ db)) (tuple_places test (n + 1) db))) (ap (slice_get (before ++ tuple ∷ db)) e ∙ get_behind before tuple db)
        ∙ ap (λ tuples. tuple ∷ tuples) rest
    at false rest = rest

-- the tuples at the places are those that pass
pub places_found : (test : List (List NdbPair) → Bool) (db : List (List (List NdbPair))) → filter_map (slice_get db) (tuple_places test 0 db) ≡ filter test db
places_found test db = found_from test [] db 0 refl
