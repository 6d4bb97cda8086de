-- The numbers of a line, a tuple and a database, an element at a time.
use Rattle.std.proofs.Common.{◌≡◌, ℕ, ◌+◌, ◌<◌, Bool, true, false, cond, ◌||◌, List, [], ◌∷◌, ◌++◌, length, get_or, take, map, refl, ap, ◌∙◌, Option, Some, None, append-nil, is_some}
use Rattle.std.specs.Prelude.{option_to_list, filter, filter_map, find}
use Rattle.std.specs.List.{list_any, cons_option}
use Rattle.std.proofs.lemmas.List.Elements.{filter-append, filter_map-append}
use Rattle.std.proofs.lemmas.List.Concat.{flat_map-append}
use Rattle.std.proofs.lemmas.List.{map-append}
use Rattle.net_base.specs.Ndb.{NdbPair}
use Rattle.net_base.specs.Networks.{first_of}
use Rattle.net_base.specs.Search.{has_attr, values_on, values_in, or_where_empty}
use Rattle.ndb_search.specs.declared.tuple_numbers.Kind.{Kind}
use Rattle.ndb_search.specs.Numbers.{attr_of, number_read_of, pair_number, numbers_on, numbers_in, numbers_near}
use Rattle.ndb_search.proofs.Lists.{Joins, joins_more, joins_first, empty_from_first}

as_list : {X : Type 0} (o : Option X) → cons_option o [] ≡ option_to_list o
as_list None = refl
as_list (Some x) = refl

on_joins : (kind : Kind) → Joins (numbers_on kind)
on_joins kind = record {
  none = refl;
  both = λ xs ys. ap (λ found. filter_map (number_read_of kind) (map (λ pair. pair.value) found)) (filter-append (has_attr (attr_of kind)) xs ys)
      ∙ ap (filter_map (number_read_of kind)) (map-append (λ pair. pair.value) (filter (has_attr (attr_of kind)) xs) (filter (has_attr (attr_of kind)) ys))
      ∙ filter_map-append (number_read_of kind) (values_on (attr_of kind) xs) (values_on (attr_of kind) ys);
}

on_one : (kind : Kind) (pair : NdbPair) → numbers_on kind (pair ∷ []) ≡ option_to_list (pair_number kind pair)
unfolding pair_number
on_one kind pair = at (has_attr (attr_of kind) pair)
  where
    at : (holds : Bool) → filter_map (number_read_of kind) (map (λ p. p.value) (cond holds (pair ∷ []) [])) ≡ option_to_list (cond holds (number_read_of kind pair.value) None)
    at true = as_list (number_read_of kind pair.value)
    at false = refl

-- one more pair of a line, which holds a number, and one which holds none
pub on_more : (kind : Kind) (line : List NdbPair) (i : ℕ) (pair : NdbPair) (number : ℕ) → i < length line → pair ≡ get_or line i pair → pair_number kind pair ≡ Some number → numbers_on kind (take (i + 1) line) ≡ numbers_on kind (take i line) ++ number ∷ []
on_more kind line i pair number within here found =
    joins_more (numbers_on kind) (on_joins kind) line i pair within here
    ∙ ap (λ piece. numbers_on kind (take i line) ++ piece) (on_one kind pair ∙ ap option_to_list found)

pub on_less : (kind : Kind) (line : List NdbPair) (i : ℕ) (pair : NdbPair) → i < length line → pair ≡ get_or line i pair → pair_number kind pair ≡ None → numbers_on kind (take (i + 1) line) ≡ numbers_on kind (take i line)
on_less kind line i pair within here found =
    joins_more (numbers_on kind) (on_joins kind) line i pair within here
    ∙ ap (λ piece. numbers_on kind (take i line) ++ piece) (on_one kind pair ∙ ap option_to_list found)
    ∙ append-nil (numbers_on kind (take i line))

-- the first number stands at the first pair that holds one
pub on_first : (kind : Kind) (line : List NdbPair) (i : ℕ) (pair : NdbPair) (number : ℕ) → i < length line → pair ≡ get_or line i pair → numbers_on kind (take i line) ≡ [] → pair_number kind pair ≡ Some number → first_of (numbers_on kind line) ≡ Some number
on_first kind line i pair number within here none found =
    joins_first (numbers_on kind) (on_joins kind) line i pair number within here none (rw (on_one kind pair, found) refl)

in_joins : (kind : Kind) → Joins (numbers_in kind)
in_joins kind = record {
  none = refl;
  both = λ xs ys. ap (filter_map (number_read_of kind)) (flat_map-append (values_on (attr_of kind)) xs ys)
      ∙ filter_map-append (number_read_of kind) (values_in (attr_of kind) xs) (values_in (attr_of kind) ys);
}

in_one : (kind : Kind) (line : List NdbPair) → numbers_in kind (line ∷ []) ≡ numbers_on kind line
in_one kind line = ap (filter_map (number_read_of kind)) (append-nil (values_on (attr_of kind) line))

-- one more line of a tuple
pub in_more : (kind : Kind) (tuple : List (List NdbPair)) (i : ℕ) (line : List NdbPair) → i < length tuple → line ≡ get_or tuple i line → numbers_in kind (take (i + 1) tuple) ≡ numbers_in kind (take i tuple) ++ numbers_on kind line
in_more kind tuple i line within here =
    joins_more (numbers_in kind) (in_joins kind) tuple i line within here ∙ ap (λ found. numbers_in kind (take i tuple) ++ found) (in_one kind line)

-- the first number of a tuple stands on the first line that has one
pub in_first : (kind : Kind) (tuple : List (List NdbPair)) (i : ℕ) (line : List NdbPair) (number : ℕ) → i < length tuple → line ≡ get_or tuple i line → numbers_in kind (take i tuple) ≡ [] → first_of (numbers_on kind line) ≡ Some number → first_of (numbers_in kind tuple) ≡ Some number
in_first kind tuple i line number within here none found =
    joins_first (numbers_in kind) (in_joins kind) tuple i line number within here none (rw (in_one kind line) found)

-- one more line without a number
pub in_none : (kind : Kind) (tuple : List (List NdbPair)) (i : ℕ) (line : List NdbPair) → i < length tuple → line ≡ get_or tuple i line → numbers_in kind (take i tuple) ≡ [] → first_of (numbers_on kind line) ≡ None → numbers_in kind (take (i + 1) tuple) ≡ []
in_none kind tuple i line within here none found =
    in_more kind tuple i line within here ∙ ap (λ front. front ++ numbers_on kind line) none ∙ empty_from_first (numbers_on kind line) found

-- the values of a line, where it has the attribute
pub near_is : (attr : List ℕ) (line : List NdbPair) (others : List (List ℕ)) → or_where_empty (values_on attr line) others ≡ cond (list_any (has_attr attr) line) (values_on attr line) others
near_is attr [] others = refl
near_is attr (pair ∷ line) others = at (has_attr attr pair) (near_is attr line others)
  where
    at : (holds : Bool) → or_where_empty (values_on attr line) others ≡ cond (list_any (has_attr attr) line) (values_on attr line) others → or_where_empty (map (λ p. p.value) (cond holds (pair ∷ filter (has_attr attr) line) (filter (has_attr attr) line))) others ≡ cond (holds || list_any (has_attr attr) line) (map (λ p. p.value) (cond holds (pair ∷ filter (has_attr attr) line) (filter (has_attr attr) line))) others
    at true rest = refl
    at false rest = rest

-- beside a pair on a line that has numbers' attribute, and on one that lacks it
pub near_on : (kind : Kind) (line : List NdbPair) (tuple : List (List NdbPair)) → list_any (has_attr (attr_of kind)) line ≡ true → numbers_near kind line tuple ≡ numbers_on kind line
near_on kind line tuple named =
    ap (filter_map (number_read_of kind)) (near_is (attr_of kind) line (values_in (attr_of kind) tuple) ∙ ap (λ holds. cond holds (values_on (attr_of kind) line) (values_in (attr_of kind) tuple)) named)

pub near_in : (kind : Kind) (line : List NdbPair) (tuple : List (List NdbPair)) → list_any (has_attr (attr_of kind)) line ≡ false → numbers_near kind line tuple ≡ numbers_in kind tuple
near_in kind line tuple named =
    ap (filter_map (number_read_of kind)) (near_is (attr_of kind) line (values_in (attr_of kind) tuple) ∙ ap (λ holds. cond holds (values_on (attr_of kind) line) (values_in (attr_of kind) tuple)) named)

-- some element passes where one is found
pub any_find : {X : Type 0} (p : X → Bool) (xs : List X) → list_any p xs ≡ is_some (find p xs)
any_find p [] = refl
any_find p (x ∷ xs) = at (p x) (any_find p xs)
  where
    at : (holds : Bool) → list_any p xs ≡ is_some (find p xs) → (holds || list_any p xs) ≡ is_some (cond holds (Some x) (find p xs))
    at true rest = refl
    at false rest = rest
