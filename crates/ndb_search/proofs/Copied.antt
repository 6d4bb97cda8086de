-- The values of a line and of a tuple, an element at a time.
use Rattle.std.proofs.Common.{◌≡◌, ℕ, ◌+◌, ◌<◌, Bool, true, false, cond, List, [], ◌∷◌, ◌++◌, length, get_or, take, map, refl, ap, ◌∙◌, Some, None, append-nil}
use Rattle.std.specs.Prelude.{filter, find}
use Rattle.std.specs.List.{list_any}
use Rattle.std.proofs.lemmas.List.Elements.{filter-append}
use Rattle.std.proofs.lemmas.List.Concat.{flat_map-append}
use Rattle.std.proofs.lemmas.List.{map-append}
use Rattle.net_base.specs.Ndb.{NdbPair}
use Rattle.net_base.specs.Search.{has_attr, line_has, values_on, values_in, values_on_found, or_where_empty, beside}
use Rattle.ndb_search.proofs.Lists.{Joins, joins_more}
use Rattle.ndb_search.proofs.Pieces.{near_is}

pub on_joins : (attr : List ℕ) → Joins (values_on attr)
on_joins attr = record {
  none = refl;
  both = λ xs ys. ap (map (λ pair. pair.value)) (filter-append (has_attr attr) xs ys)
      ∙ map-append (λ pair. pair.value) (filter (has_attr attr) xs) (filter (has_attr attr) ys);
}

on_at : NdbPair → Bool → List (List ℕ)
on_at pair holds = map (λ p. p.value) (cond holds (pair ∷ []) [])

-- one more pair of a line, which has the attribute, and one which hasn't
pub on_more : (attr : List ℕ) (line : List NdbPair) (i : ℕ) (pair : NdbPair) → i < length line → pair ≡ get_or line i pair → has_attr attr pair ≡ true → values_on attr (take (i + 1) line) ≡ values_on attr (take i line) ++ pair.value ∷ []
unfolding on_at
on_more attr line i pair within here named =
    joins_more (values_on attr) (on_joins attr) line i pair within here
    ∙ ap (λ piece. values_on attr (take i line) ++ piece) (ap (on_at pair) named)

pub on_less : (attr : List ℕ) (line : List NdbPair) (i : ℕ) (pair : NdbPair) → i < length line → pair ≡ get_or line i pair → has_attr attr pair ≡ false → values_on attr (take (i + 1) line) ≡ values_on attr (take i line)
unfolding on_at
on_less attr line i pair within here named =
    joins_more (values_on attr) (on_joins attr) line i pair within here
    ∙ ap (λ piece. values_on attr (take i line) ++ piece) (ap (on_at pair) named)
    ∙ append-nil (values_on attr (take i line))

-- one more line of a tuple
pub in_more : (attr : List ℕ) (tuple : List (List NdbPair)) (i : ℕ) (line : List NdbPair) → i < length tuple → line ≡ get_or tuple i line → values_in attr (take (i + 1) tuple) ≡ values_in attr (take i tuple) ++ values_on attr line
in_more attr tuple i line within here =
    joins_more (values_in attr) (record { none = refl; both = flat_map-append (values_on attr) }) tuple i line within here
    ∙ ap (λ piece. values_in attr (take i tuple) ++ piece) (append-nil (values_on attr line))

-- beside a pair on a line that has the other attribute, on one that lacks it, and where the pair is missing
pub near_on : (attr value other : List ℕ) (line : List NdbPair) (tuple : List (List NdbPair)) → find (line_has attr value) tuple ≡ Some line → list_any (has_attr other) line ≡ true → beside attr value other tuple ≡ values_on other line
near_on attr value other line tuple found named =
    ap (λ o. or_where_empty (values_on_found other o) (values_in other tuple)) found
    ∙ near_is other line (values_in other tuple)
    ∙ ap (λ holds. cond holds (values_on other line) (values_in other tuple)) named

pub near_in : (attr value other : List ℕ) (line : List NdbPair) (tuple : List (List NdbPair)) → find (line_has attr value) tuple ≡ Some line → list_any (has_attr other) line ≡ false → beside attr value other tuple ≡ values_in other tuple
near_in attr value other line tuple found named =
    ap (λ o. or_where_empty (values_on_found other o) (values_in other tuple)) found
    ∙ near_is other line (values_in other tuple)
    ∙ ap (λ holds. cond holds (values_on other line) (values_in other tuple)) named

pub near_none : (attr value other : List ℕ) (tuple : List (List NdbPair)) → find (line_has attr value) tuple ≡ None → beside attr value other tuple ≡ values_in other tuple
near_none attr value other tuple found = ap (λ o. or_where_empty (values_on_found other o) (values_in other tuple)) found
