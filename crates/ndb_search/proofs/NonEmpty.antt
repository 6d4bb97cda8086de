-- Values without empty ones, an element at a time, and the first tuple that has any.
use Rattle.std.proofs.Common.{◌≡◌, ℕ, ◌+◌, ◌<◌, Bool, true, false, cond, List, [], ◌∷◌, ◌++◌, length, get_or, take, drop, map, refl, sym, ap, ◌∙◌, Some, None, append-nil, arith, unwrap_or}
use Rattle.std.specs.Prelude.{filter, find, codes}
use Rattle.std.specs.Option.{option_or}
use Rattle.std.proofs.lemmas.List.Elements.{filter-append}
use Rattle.std.proofs.lemmas.List.Folds.{find-append}
use Rattle.std.proofs.lemmas.List.Concat.{flat_map-append}
use Rattle.std.proofs.lemmas.List.{map-append}
use Rattle.std.proofs.lemmas.Bool.Decides.{nat_tests}
use Rattle.net_base.specs.Ndb.{NdbPair}
use Rattle.net_base.specs.Search.{has_attr, tuples_with, values_on, values_in}
use Rattle.net_base.specs.Networks.{is_filled, longest_first, own_networks, closest}
use Rattle.ndb_search.specs.Closest.{first_filled}
use Rattle.ndb_search.proofs.Lists.{Joins, joins_more, at_place}
use Rattle.ndb_search.proofs.Copied.{on_joins}

filled_on : List ℕ → List NdbPair → List (List ℕ)
filled_on attr line = filter is_filled (values_on attr line)

filled_joins : (attr : List ℕ) → Joins (filled_on attr)
unfolding filled_on
filled_joins attr = record {
  none = refl;
  both = λ xs ys. ap (filter is_filled) ((on_joins attr).both xs ys) ∙ filter-append is_filled (values_on attr xs) (values_on attr ys);
}

piece : NdbPair → Bool → Bool → List (List ℕ)
piece pair named filled = cond named (cond filled (pair.value ∷ []) []) []

piece_is : (pair : NdbPair) (named filled : Bool) → is_filled pair.value ≡ filled → filter is_filled (map (λ p. p.value) (cond named (pair ∷ []) [])) ≡ piece pair named filled
unfolding piece
piece_is pair true filled e = ap (λ f. cond f (pair.value ∷ []) []) e
piece_is pair false filled e = refl

on_next : (attr : List ℕ) (line : List NdbPair) (i : ℕ) (pair : NdbPair) (named filled : Bool) → i < length line → pair ≡ get_or line i pair → has_attr attr pair ≡ named → is_filled pair.value ≡ filled → filled_on attr (take (i + 1) line) ≡ filled_on attr (take i line) ++ piece pair named filled
unfolding filled_on piece
on_next attr line i pair named filled within here e f =
    joins_more (filled_on attr) (filled_joins attr) line i pair within here
    ∙ ap (λ back. filled_on attr (take i line) ++ back) (ap (λ b. filter is_filled (map (λ p. p.value) (cond b (pair ∷ []) []))) e ∙ piece_is pair named filled f)

-- one more pair, with the attribute and a value, without the attribute, and without a value
pub on_more : (attr : List ℕ) (line : List NdbPair) (i : ℕ) (pair : NdbPair) → i < length line → pair ≡ get_or line i pair → has_attr attr pair ≡ true → 0 < length pair.value → filter is_filled (values_on attr (take (i + 1) line)) ≡ filter is_filled (values_on attr (take i line)) ++ pair.value ∷ []
unfolding filled_on piece
on_more attr line i pair within here named some = on_next attr line i pair true true within here named (grind (arith, nat_tests))

pub on_less : (attr : List ℕ) (line : List NdbPair) (i : ℕ) (pair : NdbPair) → i < length line → pair ≡ get_or line i pair → has_attr attr pair ≡ false → filter is_filled (values_on attr (take (i + 1) line)) ≡ filter is_filled (values_on attr (take i line))
unfolding filled_on piece
on_less attr line i pair within here named =
    on_next attr line i pair false (is_filled pair.value) within here named refl ∙ append-nil (filled_on attr (take i line))

pub on_empty : (attr : List ℕ) (line : List NdbPair) (i : ℕ) (pair : NdbPair) → i < length line → pair ≡ get_or line i pair → has_attr attr pair ≡ true → length pair.value ≡ 0 → filter is_filled (values_on attr (take (i + 1) line)) ≡ filter is_filled (values_on attr (take i line))
unfolding filled_on piece
on_empty attr line i pair within here named none =
    on_next attr line i pair true false within here named (grind (arith, nat_tests)) ∙ append-nil (filled_on attr (take i line))

filled_of : List ℕ → List (List NdbPair) → List (List ℕ)
filled_of attr tuple = filter is_filled (values_in attr tuple)

-- one more line of a tuple
pub in_more : (attr : List ℕ) (tuple : List (List NdbPair)) (i : ℕ) (line : List NdbPair) → i < length tuple → line ≡ get_or tuple i line → filter is_filled (values_in attr (take (i + 1) tuple)) ≡ filter is_filled (values_in attr (take i tuple)) ++ filter is_filled (values_on attr line)
unfolding filled_of
in_more attr tuple i line within here =
    joins_more (filled_of attr)
    (record { none = refl; both = λ xs ys. ap (filter is_filled) (flat_map-append (values_on attr) xs ys) ∙ filter-append is_filled (values_in attr xs) (values_in attr ys) })
    tuple i line within here
    ∙ ap (λ values. filled_of attr (take i tuple) ++ filter is_filled values) (append-nil (values_on attr line))

-- The first tuple that has values.

pub first_append : (attr : List ℕ) (xs ys : List (List (List NdbPair))) → first_filled attr (xs ++ ys) ≡ option_or (first_filled attr xs) (first_filled attr ys)
first_append attr xs ys =
    ap (find is_filled) (map-append (λ tuple. filter is_filled (values_in attr tuple)) xs ys)
    ∙ find-append is_filled (map (λ tuple. filter is_filled (values_in attr tuple)) xs) (map (λ tuple. filter is_filled (values_in attr tuple)) ys)

-- the first of a piece where the pieces before it have none
pub first_here : {X : Type 0} (attr : List ℕ) (F : List X → List (List (List NdbPair))) → Joins F → (xs : List X) (i : ℕ) (x : X) (values : List (List ℕ)) → i < length xs → x ≡ get_or xs i x → first_filled attr (F (take i xs)) ≡ None → first_filled attr (F (x ∷ [])) ≡ Some values → first_filled attr (F xs) ≡ Some values
first_here {X} attr F joins xs i x values within here none some =
    let rest : List X = drop (i + 1) xs in
    let cut : F xs ≡ F (take i xs) ++ (F (x ∷ []) ++ F rest) =
    ap F (sym (at_place xs i x within))
    ∙ joins.both (take i xs) (get_or xs i x ∷ rest)
    ∙ ap (λ back. F (take i xs) ++ back) (joins.both (get_or xs i x ∷ []) rest ∙ ap (λ z. F (z ∷ []) ++ F rest) (sym here)) in
    ap (first_filled attr) cut
    ∙ first_append attr (F (take i xs)) (F (x ∷ []) ++ F rest)
    ∙ ap (λ o. option_or o (first_filled attr (F (x ∷ []) ++ F rest))) none
    ∙ first_append attr (F (x ∷ [])) (F rest)
    ∙ ap (λ o. option_or o (first_filled attr (F rest))) some

pub first_past : {X : Type 0} (attr : List ℕ) (F : List X → List (List (List NdbPair))) → Joins F → (xs : List X) (i : ℕ) (x : X) → i < length xs → x ≡ get_or xs i x → first_filled attr (F (take i xs)) ≡ None → first_filled attr (F (x ∷ [])) ≡ None → first_filled attr (F (take (i + 1) xs)) ≡ None
first_past attr F joins xs i x within here none nothing =
    ap (first_filled attr) (joins_more F joins xs i x within here)
    ∙ first_append attr (F (take i xs)) (F (x ∷ []))
    ∙ ap (λ o. option_or o (first_filled attr (F (x ∷ [])))) none
    ∙ nothing

pub one_filled : (attr : List ℕ) (tuple : List (List NdbPair)) → 0 < length (filter is_filled (values_in attr tuple)) → first_filled attr (tuple ∷ []) ≡ Some (filter is_filled (values_in attr tuple))
one_filled attr tuple some = at (is_filled (filter is_filled (values_in attr tuple))) refl
  where
    at : (b : Bool) → is_filled (filter is_filled (values_in attr tuple)) ≡ b → cond b (Some (filter is_filled (values_in attr tuple))) None ≡ Some (filter is_filled (values_in attr tuple))
    at true e = refl
    at false e = absurd (grind (arith, nat_tests))

pub none_filled : (attr : List ℕ) (tuple : List (List NdbPair)) → length (filter is_filled (values_in attr tuple)) ≡ 0 → first_filled attr (tuple ∷ []) ≡ None
none_filled attr tuple none = at (is_filled (filter is_filled (values_in attr tuple))) refl
  where
    at : (b : Bool) → is_filled (filter is_filled (values_in attr tuple)) ≡ b → cond b (Some (filter is_filled (values_in attr tuple))) None ≡ None
    at true e = absurd (grind (arith, nat_tests))
    at false e = refl

-- what is closest: of the system's tuples, else of its networks
pub near_is : (attr me : List ℕ) (db : List (List (List NdbPair))) → closest attr me db ≡ unwrap_or (option_or (first_filled attr (tuples_with (codes "sys") me db)) (first_filled attr (map (λ network. network.tuple) (longest_first (own_networks me db))))) []
near_is attr me db =
    ap (λ o. unwrap_or o []) (first_append attr (tuples_with (codes "sys") me db) (map (λ network. network.tuple) (longest_first (own_networks me db))))
