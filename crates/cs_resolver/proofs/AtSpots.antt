-- The numbers beside a pair, by the spots where it stands.
use Rattle.std.proofs.Common.{◌≡◌, ℕ, zero, suc, ◌+◌, ◌<◌, Bool, true, false, cond, List, [], ◌∷◌, ◌++◌, length, get_or, take, refl, sym, ap, ◌∙◌, subst, Option, Some, None, arith, append-nil, append_assoc, length-append}
use Rattle.std.specs.Prelude.{option_map, option_to_list, flat_map, find, not}
use Rattle.std.specs.Option.{option_map_or}
use Rattle.std.specs.List.{position_from}
use Rattle.std.proofs.lemmas.List.{take_more}
use Rattle.std.proofs.lemmas.List.Concat.{flat_map-append}
use Rattle.net_base.specs.Ndb.{NdbPair}
use Rattle.net_base.specs.Search.{line_has}
use Rattle.net_base.specs.Networks.{own_networks, is_on}
use Rattle.net_base.specs.Cs.{own_first}
use Rattle.ndb_search.specs.declared.tuple_numbers.Kind.{Kind}
use Rattle.ndb_search.specs.Numbers.{numbers_near, numbers_found}
use Rattle.ndb_search.proofs.Shared.{found_at, found_joins, found_one}
use Rattle.net_base.specs.declared.ndb.spot.Spot.{Spot}
use Rattle.net_base.specs.Spots.{spot_at}
use Rattle.ndb_index.specs.Kept.{spot_in, spots_from, spots_with}
use Rattle.cs_resolver.specs.Probes.{IsSpot, AreSpots, numbers_at}

abbrev pub Lines : Type 0
Lines = List (List NdbPair)

abbrev pub Db : Type 0
Db = List Lines

get_behind : {X : Type 0} (before : List X) (x : X) (xs : List X) (d : X) → get_or (before ++ x ∷ xs) (length before) d ≡ x
get_behind [] x xs d = refl
get_behind (y ∷ before) x xs d = get_behind before x xs d

-- the element at the first place that passes is the first that passes
at_position : (test : List NdbPair → Bool) (g : List NdbPair → List ℕ) (before xs : Lines) (n : ℕ) → n ≡ length before → option_map_or (λ i. g (get_or (before ++ xs) i [])) (position_from test n xs) [] ≡ option_map_or g (find test xs) []
at_position test g before [] n at = refl
at_position test g before (x ∷ xs) n at =
    by (test x)
    (ap (λ (all : Lines). option_map_or (λ i. g (get_or all i [])) (position_from test (n + 1) xs) []) (sym (append_assoc before (x ∷ []) xs))
    ∙ at_position test g (before ++ x ∷ []) xs (n + 1) (omega (arith, at, length-append before (x ∷ []))))
  where
    by : (b : Bool) → option_map_or (λ i. g (get_or (before ++ x ∷ xs) i [])) (position_from test (n + 1) xs) [] ≡ option_map_or g (find test xs) [] → option_map_or (λ i. g (get_or (before ++ x ∷ xs) i [])) (cond b (Some n) (position_from test (n + 1) xs)) [] ≡ option_map_or g (cond b (Some x) (find test xs)) []
    by true rest = ap (λ i. g (get_or (before ++ x ∷ xs) i [])) at ∙ ap g (get_behind before x xs [])
    by false rest = rest

piece : (kind : Kind) (all : Db) (n : ℕ) (o : Option ℕ) → flat_map (numbers_at all kind) (option_to_list (option_map (spot_at n) o)) ≡ option_map_or (λ i. numbers_near kind (get_or (get_or all n []) i []) (get_or all n [])) o []
piece kind all n None = refl
piece kind all n (Some i) = append-nil (numbers_near kind (get_or (get_or all n []) i []) (get_or all n []))

found_is : (kind : Kind) (tuple : Lines) (o : Option (List NdbPair)) → option_map_or (λ line. numbers_near kind line tuple) o [] ≡ found_at kind tuple o
found_is kind tuple None = refl
found_is kind tuple (Some line) = refl

-- the numbers at the spot of a tuple
one_tuple : (attr value : List ℕ) (kind : Kind) (before : Db) (tuple : Lines) (db : Db) (n : ℕ) → n ≡ length before → flat_map (numbers_at (before ++ tuple ∷ db) kind) (option_to_list (spot_in n attr value tuple)) ≡ numbers_found attr value kind (tuple ∷ [])
one_tuple attr value kind before tuple db n at =
    let here : get_or (before ++ tuple ∷ db) n [] ≡ tuple = ap (λ i. get_or (before ++ tuple ∷ db) i []) at ∙ get_behind before tuple db [] in
    piece kind (before ++ tuple ∷ db) n (position_from (line_has attr value) 0 tuple)
    ∙ ap (λ (t : Lines). option_map_or (λ i. numbers_near kind (get_or t i []) t) (position_from (line_has attr value) 0 tuple) []) here
    ∙ at_position (line_has attr value) (λ line. numbers_near kind line tuple) [] tuple 0 refl
    ∙ found_is kind tuple (find (line_has attr value) tuple)
    ∙ sym (found_one attr value kind tuple)

from_spots : (attr value : List ℕ) (kind : Kind) (before db : Db) (n : ℕ) → n ≡ length before → flat_map (numbers_at (before ++ db) kind) (spots_from n attr value db) ≡ numbers_found attr value kind db
from_spots attr value kind before [] n at = refl
from_spots attr value kind before (tuple ∷ db) n at =
    flat_map-append (numbers_at (before ++ tuple ∷ db) kind) (option_to_list (spot_in n attr value tuple)) (spots_from (n + 1) attr value db)
    ∙ ap (λ front. front ++ flat_map (numbers_at (before ++ tuple ∷ db) kind) (spots_from (n + 1) attr value db)) (one_tuple attr value kind before tuple db n at)
    ∙ ap (λ back. numbers_found attr value kind (tuple ∷ []) ++ back)
    (ap (λ (all : Db). flat_map (numbers_at all kind) (spots_from (n + 1) attr value db)) (sym (append_assoc before (tuple ∷ []) db))
    ∙ from_spots attr value kind (before ++ tuple ∷ []) db (n + 1) (omega (arith, at, length-append before (tuple ∷ []))))
    ∙ sym ((found_joins attr value kind).both (tuple ∷ []) db)

-- the numbers at a pair's spots are those beside it in all tuples
pub spots_numbers : (attr value : List ℕ) (kind : Kind) (db : Db) → flat_map (numbers_at db kind) (spots_with attr value db) ≡ numbers_found attr value kind db
spots_numbers attr value kind db = from_spots attr value kind [] db 0 refl

-- Spots are in the database.

AllSpots : Db → List Spot → Type 0
AllSpots db [] = Unit {0}
AllSpots db (spot ∷ spots) = IsSpot db spot × AllSpots db spots

position_within : (test : List NdbPair → Bool) (xs : Lines) (n i : ℕ) → position_from test n xs ≡ Some i → i < n + length xs
position_within test [] n i e = absurd cc
position_within test (x ∷ xs) n i e = at (test x) e (position_within test xs (n + 1) i)
  where
    same : Some n ≡ Some i → n ≡ i
    same f = cc

    at : (b : Bool) → cond b (Some n) (position_from test (n + 1) xs) ≡ Some i → (position_from test (n + 1) xs ≡ Some i → i < (n + 1) + length xs) → i < n + length (x ∷ xs)
    at true f rest = omega (arith, same f)
    at false f rest = omega (arith, rest f)

all_append : (db : Db) (xs ys : List Spot) → AllSpots db xs → AllSpots db ys → AllSpots db (xs ++ ys)
unfolding AllSpots
all_append db [] ys a b = b
all_append db (x ∷ xs) ys a b = (a.0, all_append db xs ys a.1 b)

all_spots : (attr value : List ℕ) (before db : Db) (n : ℕ) → n ≡ length before → AllSpots (before ++ db) (spots_from n attr value db)
unfolding AllSpots
all_spots attr value before [] n at = tt
all_spots attr value before (tuple ∷ db) n at =
    all_append (before ++ tuple ∷ db) (option_to_list (spot_in n attr value tuple)) (spots_from (n + 1) attr value db)
    (by (position_from (line_has attr value) 0 tuple) (position_within (line_has attr value) tuple 0))
    (subst (λ (all : Db). AllSpots all (spots_from (n + 1) attr value db)) (append_assoc before (tuple ∷ []) db)
    (all_spots attr value (before ++ tuple ∷ []) db (n + 1) (omega (arith, at, length-append before (tuple ∷ [])))))
  where
    here : get_or (before ++ tuple ∷ db) n [] ≡ tuple
    here = ap (λ i. get_or (before ++ tuple ∷ db) i []) at ∙ get_behind before tuple db []

    by : (o : Option ℕ) → ((i : ℕ) → o ≡ Some i → i < 0 + length tuple) → AllSpots (before ++ tuple ∷ db) (option_to_list (option_map (spot_at n) o))
    by None within = tt
    by (Some i) within =
        let place : n < length (before ++ tuple ∷ db) = omega (arith, at, length-append before (tuple ∷ db)) in
        let line : i < length (get_or (before ++ tuple ∷ db) n []) = omega (arith, within i refl, ap (λ (t : Lines). length t) here) in
        ((place, line), tt)

at_spot : (db : Db) (spots : List Spot) → AllSpots db spots → (i : ℕ) (d : Spot) → i < length spots → IsSpot db (get_or spots i d)
unfolding AllSpots
at_spot db [] all i d within = absurd (omega (arith, within))
at_spot db (spot ∷ spots) all zero d within = all.0
at_spot db (spot ∷ spots) all (suc i) d within = at_spot db spots all.1 i d (omega (arith, within))

pub spots_are_spots : (attr value : List ℕ) (db : Db) → AreSpots db (spots_with attr value db)
spots_are_spots attr value db = at_spot db (spots_with attr value db) (all_spots attr value [] db 0 refl)

-- fewer than two addresses need no order
pub few_first : (me : List ℕ) (db : Db) (ips : List ℕ) → length ips < 2 → own_first me db ips ≡ ips
few_first me db [] few = refl
few_first me db (ip ∷ []) few = at (is_on (own_networks me db) ip)
  where
    at : (b : Bool) → cond b (ip ∷ []) [] ++ cond (not b) (ip ∷ []) [] ≡ ip ∷ []
    at true = refl
    at false = refl
few_first me db (ip ∷ other ∷ ips) few = absurd (omega (arith, few))

-- the numbers at a spot are those beside its line in its tuple
pub at_spot_is : (kind : Kind) (db : Db) (spot : Spot) (tuple : Lines) (line : List NdbPair) → tuple ≡ get_or db spot.place [] → line ≡ get_or tuple spot.line [] → numbers_at db kind spot ≡ numbers_near kind line tuple
at_spot_is kind db spot tuple line tuple_is line_is =
    ap (λ (t : Lines). numbers_near kind (get_or t spot.line []) t) (sym tuple_is) ∙ ap (λ (l : List NdbPair). numbers_near kind l tuple) (sym line_is)

-- the pieces of one spot more
pub pieces_push : (kind : Kind) (db : Db) (spots : List Spot) (i : ℕ) (d : Spot) → i < length spots → flat_map (numbers_at db kind) (take (i + 1) spots) ≡ flat_map (numbers_at db kind) (take i spots) ++ numbers_at db kind (get_or spots i d)
pieces_push kind db spots i d within =
    ap (flat_map (numbers_at db kind)) (take_more spots i d within)
    ∙ flat_map-append (numbers_at db kind) (take i spots) (get_or spots i d ∷ [])
    ∙ ap (λ (back : List ℕ). flat_map (numbers_at db kind) (take i spots) ++ back) (append-nil (numbers_at db kind (get_or spots i d)))

-- one more spot's numbers
pub spot_more : (kind : Kind) (db : Db) (spots : List Spot) (i : ℕ) (d : Spot) (initial now after : List ℕ) → i < length spots → now ≡ initial ++ flat_map (numbers_at db kind) (take i spots) → after ≡ now ++ numbers_at db kind (get_or spots i d) → after ≡ initial ++ flat_map (numbers_at db kind) (take (i + 1) spots)
spot_more kind db spots i d initial now after within so_far put =
    put
    ∙ ap (λ (front : List ℕ). front ++ numbers_at db kind (get_or spots i d)) so_far
    ∙ append_assoc initial (flat_map (numbers_at db kind) (take i spots)) (numbers_at db kind (get_or spots i d))
    ∙ ap (λ (back : List ℕ). initial ++ back) (sym (pieces_push kind db spots i d within))
