-- The numbers beside a pair, a tuple at a time.
use Rattle.std.proofs.Common.{◌≡◌, ℕ, ◌+◌, ◌<◌, cond, List, [], ◌∷◌, ◌++◌, length, get_or, take, refl, ap, ◌∙◌, Option, Some, None, append-nil, is_some}
use Rattle.std.specs.Prelude.{filter, filter_map, flat_map, find}
use Rattle.std.proofs.lemmas.List.Elements.{filter-append, filter_map-append}
use Rattle.std.proofs.lemmas.List.Concat.{flat_map-append}
use Rattle.net_base.specs.Ndb.{NdbPair}
use Rattle.net_base.specs.Search.{line_has, tuple_has, values_in, or_where_empty, values_on_found, beside}
use Rattle.ndb_search.specs.declared.tuple_numbers.Kind.{Kind}
use Rattle.ndb_search.specs.Numbers.{attr_of, number_read_of, numbers_near, numbers_found}
use Rattle.ndb_search.proofs.Lists.{Joins, joins_more}
use Rattle.ndb_search.proofs.Pieces.{any_find}

-- the numbers of a tuple beside the pair whose first line this is
abbrev pub found_at : Kind → List (List NdbPair) → Option (List NdbPair) → List ℕ
found_at kind tuple None = []
found_at kind tuple (Some line) = numbers_near kind line tuple

pub found_joins : (attr value : List ℕ) (kind : Kind) → Joins (numbers_found attr value kind)
found_joins attr value kind = record {
  none = refl;
  both = λ xs ys. ap (λ found. filter_map (number_read_of kind) (flat_map (beside attr value (attr_of kind)) found)) (filter-append (tuple_has attr value) xs ys)
      ∙ ap (filter_map (number_read_of kind)) (flat_map-append (beside attr value (attr_of kind)) (filter (tuple_has attr value) xs) (filter (tuple_has attr value) ys))
      ∙ filter_map-append (number_read_of kind) (flat_map (beside attr value (attr_of kind)) (filter (tuple_has attr value) xs)) (flat_map (beside attr value (attr_of kind)) (filter (tuple_has attr value) ys));
}

pub found_one : (attr value : List ℕ) (kind : Kind) (tuple : List (List NdbPair)) → numbers_found attr value kind (tuple ∷ []) ≡ found_at kind tuple (find (line_has attr value) tuple)
found_one attr value kind tuple =
    ap (λ holds. filter_map (number_read_of kind) (flat_map (beside attr value (attr_of kind)) (cond holds (tuple ∷ []) []))) (any_find (line_has attr value) tuple)
    ∙ at (find (line_has attr value) tuple) refl
  where
    at : (line : Option (List NdbPair)) → find (line_has attr value) tuple ≡ line → filter_map (number_read_of kind) (flat_map (beside attr value (attr_of kind)) (cond (is_some line) (tuple ∷ []) [])) ≡ found_at kind tuple line
    at None e = refl
    at (Some line) e = ap (filter_map (number_read_of kind)) (append-nil (beside attr value (attr_of kind) tuple) ∙ ap (λ o. or_where_empty (values_on_found (attr_of kind) o) (values_in (attr_of kind) tuple)) e)

-- one more tuple, with the pair and without it
pub found_more : (attr value : List ℕ) (kind : Kind) (db : List (List (List NdbPair))) (i : ℕ) (tuple : List (List NdbPair)) (line : List NdbPair) → i < length db → tuple ≡ get_or db i tuple → find (line_has attr value) tuple ≡ Some line → numbers_found attr value kind (take (i + 1) db) ≡ numbers_found attr value kind (take i db) ++ numbers_near kind line tuple
found_more attr value kind db i tuple line within here with_pair =
    joins_more (numbers_found attr value kind) (found_joins attr value kind) db i tuple within here
    ∙ ap (λ found. numbers_found attr value kind (take i db) ++ found) (found_one attr value kind tuple ∙ ap (found_at kind tuple) with_pair)

pub found_less : (attr value : List ℕ) (kind : Kind) (db : List (List (List NdbPair))) (i : ℕ) (tuple : List (List NdbPair)) → i < length db → tuple ≡ get_or db i tuple → find (line_has attr value) tuple ≡ None → numbers_found attr value kind (take (i + 1) db) ≡ numbers_found attr value kind (take i db)
found_less attr value kind db i tuple within here without_pair =
    joins_more (numbers_found attr value kind) (found_joins attr value kind) db i tuple within here
    ∙ ap (λ found. numbers_found attr value kind (take i db) ++ found) (found_one attr value kind tuple ∙ ap (found_at kind tuple) without_pair)
    ∙ append-nil (numbers_found attr value kind (take i db))
