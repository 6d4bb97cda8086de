-- The spots of a pair, as they are noted pair by pair in a row, line by line and tuple by tuple.
use Rattle.std.proofs.Common.{◌≡◌, ℕ, ◌+◌, ◌-◌, ◌<◌, ◌≤◌, ◌==◌, ◌||◌, Bool, true, false, cond, List, [], ◌∷◌, ◌++◌, length, get_or, take, drop, map, refl, sym, ap, ◌∙◌, zero, suc, Option, Some, None, arith, append-nil, append_assoc, length-append, slice_get}
use Rattle.std.specs.Prelude.{option_map, option_to_list, flat_map, zip}
use Rattle.std.specs.Option.{option_map_or}
use Rattle.std.specs.List.{position_from}
use Rattle.std.proofs.lemmas.Bool.Decides.{nat_tests}
use Rattle.std.proofs.lemmas.List.{at_drop_more, at_drop_all, length-map}
use Rattle.std.proofs.lemmas.List.Concat.{flat_map-append}
use Rattle.net_base.specs.Ndb.{NdbPair}
use Rattle.net_base.specs.Search.{is_pair, line_has}
use Rattle.net_base.specs.Spots.{spot_at, line_spots, all_lines, spread, pair_spots}
use Rattle.net_base.specs.Store.{all_pairs}
use Rattle.net_base.specs.declared.ndb.spot.Spot.{Spot}
use Rattle.net_base.proofs.Shared.{lines-length, number_itself}
use Rattle.ndb_index.specs.Kept.{spot_in, spots_from, spots_with, spot_ends_at, with_spot, spots_noted, lines_noted}

abbrev pub Placed : Type 0
Placed = List (NdbPair × Spot)

-- the spots after these pairs, each with where it stands
abbrev pub pairs_noted : List ℕ → List ℕ → Placed → List Spot → List Spot
pairs_noted attr value [] spots = spots
pairs_noted attr value (item ∷ items) spots = pairs_noted attr value items (spots_noted (is_pair attr value item.0) item.1 spots)

-- all pairs of a database in a row, each with where it stands
abbrev pub placed : List (List (List NdbPair)) → Placed
placed db = zip (all_pairs db) (pair_spots db)

-- One spot.

last_is : (spots : List Spot) (spot : Spot) → slice_get (spots ++ spot ∷ []) (length spots) ≡ Some spot
last_is [] spot = refl
last_is (s ∷ spots) spot = last_is spots spot

ends_push : (place : ℕ) (spots : List Spot) (spot : Spot) → spot.place ≡ place → spot_ends_at place (spots ++ spot ∷ []) ≡ true
ends_push place spots spot here =
    let last : length (spots ++ spot ∷ []) - 1 ≡ length spots = omega (arith, length-append spots (spot ∷ [])) in
    ap (λ i. option_map_or (λ s. s.place == place) (slice_get (spots ++ spot ∷ []) i) false) last
    ∙ ap (λ o. option_map_or (λ s. s.place == place) o false) (last_is spots spot)
    ∙ ap (λ n. n == place) here ∙ number_itself place

-- after one spot of a tuple the spots end there
ends_with : (place : ℕ) (spot : Spot) (spots : List Spot) → spot.place ≡ place → spot_ends_at place (with_spot spot spots) ≡ true
ends_with place spot spots here = at (spot_ends_at spot.place spots) refl
  where
    at : (b : Bool) → spot_ends_at spot.place spots ≡ b → spot_ends_at place (cond b spots (spots ++ spot ∷ [])) ≡ true
    at true e = ap (λ n. spot_ends_at n spots) (sym here) ∙ e
    at false e = ends_push place spots spot here

-- a spot of a tuple in which the spots end already
stays : (place : ℕ) (spot : Spot) (spots : List Spot) → spot.place ≡ place → spot_ends_at place spots ≡ true → with_spot spot spots ≡ spots
stays place spot spots here ends = ap (λ b. cond b spots (spots ++ spot ∷ [])) (ap (λ n. spot_ends_at n spots) here ∙ ends)

-- a spot noted twice
pub noted_twice : (b c : Bool) (spot : Spot) (spots : List Spot) → spots_noted c spot (spots_noted b spot spots) ≡ spots_noted (b || c) spot spots
noted_twice true true spot spots = stays spot.place spot (with_spot spot spots) refl (ends_with spot.place spot spots refl)
noted_twice true false spot spots = refl
noted_twice false c spot spots = refl

-- Pairs in a row.

pub noted_both : (attr value : List ℕ) (xs ys : Placed) (spots : List Spot) → pairs_noted attr value (xs ++ ys) spots ≡ pairs_noted attr value ys (pairs_noted attr value xs spots)
noted_both attr value [] ys spots = refl
noted_both attr value (x ∷ xs) ys spots = noted_both attr value xs ys (spots_noted (is_pair attr value x.0) x.1 spots)

zip_both : {X Y : Type 0} (xs more : List X) (ys others : List Y) → length ys ≡ length xs → zip (xs ++ more) (ys ++ others) ≡ zip xs ys ++ zip more others
zip_both [] more [] others same = refl
zip_both [] more (y ∷ ys) others same = absurd (omega (arith, same))
zip_both (x ∷ xs) more [] others same = absurd (omega (arith, same))
zip_both (x ∷ xs) more (y ∷ ys) others same = ap (λ rest. (x, y) ∷ rest) (zip_both xs more ys others (omega (arith, same)))

pub zip_length : {X Y : Type 0} (xs : List X) (ys : List Y) → length ys ≡ length xs → length (zip xs ys) ≡ length xs
zip_length [] ys same = refl
zip_length (x ∷ xs) [] same = absurd (omega (arith, same))
zip_length (x ∷ xs) (y ∷ ys) same = ap suc (zip_length xs ys (omega (arith, same)))

pub zip_at : {X Y : Type 0} (xs : List X) (ys : List Y) (i : ℕ) (x : X) (y : Y) → length ys ≡ length xs → i < length xs → get_or (zip xs ys) i (x, y) ≡ (get_or xs i x, get_or ys i y)
zip_at [] ys i x y same h = absurd (omega (arith, h))
zip_at (a ∷ xs) [] i x y same h = absurd (omega (arith, same))
zip_at (a ∷ xs) (b ∷ ys) zero x y same h = refl
zip_at (a ∷ xs) (b ∷ ys) (suc i) x y same h = zip_at xs ys i x y (omega (arith, same)) (omega (arith, h))

-- A line.

line_noted : (attr value : List ℕ) (line : List NdbPair) (spot : Spot) (spots : List Spot) → pairs_noted attr value (zip line (map (λ pair. spot) line)) spots ≡ spots_noted (line_has attr value line) spot spots
line_noted attr value [] spot spots = refl
line_noted attr value (pair ∷ line) spot spots =
    line_noted attr value line spot (spots_noted (is_pair attr value pair) spot spots) ∙ noted_twice (is_pair attr value pair) (line_has attr value line) spot spots

-- A tuple.

flat : List (List NdbPair) → List NdbPair
flat tuple = flat_map (λ line. line) tuple

spread_length : (lines : List (List NdbPair)) (places : List Spot) → length places ≡ length lines → length (spread lines places) ≡ length (flat lines)
unfolding flat
spread_length [] places same = refl
spread_length (line ∷ lines) [] same = absurd (omega (arith, same))
spread_length (line ∷ lines) (place ∷ places) same =
    omega (arith, length-append (map (λ (pair : NdbPair). place) line) (spread lines places), length-map line (λ (pair : NdbPair). place), length-append line (flat_map (λ (l : List NdbPair). l) lines), spread_length lines places (omega (arith, same)))

spread_both : (lines more : List (List NdbPair)) (places others : List Spot) → length places ≡ length lines → spread (lines ++ more) (places ++ others) ≡ spread lines places ++ spread more others
spread_both [] more [] others same = refl
spread_both [] more (place ∷ places) others same = absurd (omega (arith, same))
spread_both (line ∷ lines) more [] others same = absurd (omega (arith, same))
spread_both (line ∷ lines) more (place ∷ places) others same =
    ap (λ (rest : List Spot). map (λ (pair : NdbPair). place) line ++ rest) (spread_both lines more places others (omega (arith, same)))
    ∙ sym (append_assoc (map (λ (pair : NdbPair). place) line) (spread lines places) (spread more others))

tuple_noted : (attr value : List ℕ) (place number : ℕ) (tuple : List (List NdbPair)) (spots : List Spot) → pairs_noted attr value (zip (flat tuple) (spread tuple (line_spots place number tuple))) spots ≡ lines_noted place number attr value tuple spots
unfolding flat
tuple_noted attr value place number [] spots = refl
tuple_noted attr value place number (line ∷ tuple) spots =
    let spot : Spot = spot_at place number in
    let front : List Spot = map (λ (pair : NdbPair). spot) line in
    let rest : List Spot = spread tuple (line_spots place (number + 1) tuple) in
    let others : List NdbPair = flat_map (λ (l : List NdbPair). l) tuple in
    ap (λ (items : Placed). pairs_noted attr value items spots) (zip_both line others front rest (length-map line (λ (pair : NdbPair). spot)))
    ∙ noted_both attr value (zip line front) (zip others rest) spots
    ∙ ap (pairs_noted attr value (zip others rest)) (line_noted attr value line spot spots)
    ∙ tuple_noted attr value place (number + 1) tuple (spots_noted (line_has attr value line) spot spots)

-- the lines of a tuple in which the spots end already
lines_stay : (place number : ℕ) (attr value : List ℕ) (lines : List (List NdbPair)) (spots : List Spot) → spot_ends_at place spots ≡ true → lines_noted place number attr value lines spots ≡ spots
lines_stay place number attr value [] spots ends = refl
lines_stay place number attr value (line ∷ lines) spots ends =
    ap (lines_noted place (number + 1) attr value lines) (at (line_has attr value line)) ∙ lines_stay place (number + 1) attr value lines spots ends
  where
    at : (b : Bool) → spots_noted b (spot_at place number) spots ≡ spots
    at true = stays place (spot_at place number) spots refl ends
    at false = refl

-- the lines of a tuple give the first line with the pair
lines_give : (place number : ℕ) (attr value : List ℕ) (lines : List (List NdbPair)) (spots : List Spot) → spot_ends_at place spots ≡ false → lines_noted place number attr value lines spots ≡ spots ++ option_to_list (option_map (spot_at place) (position_from (line_has attr value) number lines))
lines_give place number attr value [] spots apart = sym (append-nil spots)
lines_give place number attr value (line ∷ lines) spots apart = at (line_has attr value line) (lines_give place (number + 1) attr value lines spots apart)
  where
    at : (b : Bool) → lines_noted place (number + 1) attr value lines spots ≡ spots ++ option_to_list (option_map (spot_at place) (position_from (line_has attr value) (number + 1) lines)) → lines_noted place (number + 1) attr value lines (spots_noted b (spot_at place number) spots) ≡ spots ++ option_to_list (option_map (spot_at place) (cond b (Some number) (position_from (line_has attr value) (number + 1) lines)))
    at true rest =
        let pushed : with_spot (spot_at place number) spots ≡ spots ++ spot_at place number ∷ [] = ap (λ b. cond b spots (spots ++ spot_at place number ∷ [])) apart in
        ap (lines_noted place (number + 1) attr value lines) pushed
        ∙ lines_stay place (number + 1) attr value lines (spots ++ spot_at place number ∷ []) (ends_push place spots (spot_at place number) refl)
    at false rest = rest

-- A database.

-- spots in tuples before a place
Below : ℕ → List Spot → Type 0
Below place [] = Unit {0}
Below place (spot ∷ spots) = (spot.place < place) × Below place spots

below_apart : (place : ℕ) (spots : List Spot) (i : ℕ) → Below place spots → option_map_or (λ s. s.place == place) (slice_get spots i) false ≡ false
unfolding Below
below_apart place [] i below = refl
below_apart place (spot ∷ spots) zero below = grind (arith, nat_tests, below.0)
below_apart place (spot ∷ spots) (suc i) below = below_apart place spots i below.1

below_both : (place : ℕ) (xs ys : List Spot) → Below place xs → Below place ys → Below place (xs ++ ys)
unfolding Below
below_both place [] ys a b = b
below_both place (x ∷ xs) ys a b = (a.0, below_both place xs ys a.1 b)

below_more : (place : ℕ) (spots : List Spot) → Below place spots → Below (place + 1) spots
unfolding Below
below_more place [] below = tt
below_more place (spot ∷ spots) below = (omega (arith, below.0), below_more place spots below.1)

below_one : (place : ℕ) (line : Option ℕ) → Below (place + 1) (option_to_list (option_map (spot_at place) line))
unfolding Below
below_one place None = tt
below_one place (Some line) = (omega arith, tt)

all_noted : (attr value : List ℕ) (n : ℕ) (db : List (List (List NdbPair))) (before : List Spot) → Below n before → pairs_noted attr value (zip (all_pairs db) (spread (flat_map (λ tuple. tuple) db) (all_lines n db))) before ≡ before ++ spots_from n attr value db
unfolding flat
all_noted attr value n [] before below = sym (append-nil before)
all_noted attr value n (tuple ∷ db) before below =
    let own : List Spot = spread tuple (line_spots n 0 tuple) in
    let lines : List (List NdbPair) = flat_map (λ (t : List (List NdbPair)). t) db in
    let rest : List Spot = spread lines (all_lines (n + 1) db) in
    let found : List Spot = option_to_list (spot_in n attr value tuple) in
    ap (λ (places : List Spot). pairs_noted attr value (zip (flat tuple ++ all_pairs db) places) before) (spread_both tuple lines (line_spots n 0 tuple) (all_lines (n + 1) db) (lines-length n 0 tuple))
    ∙ ap (λ (items : Placed). pairs_noted attr value items before) (zip_both (flat tuple) (all_pairs db) own rest (spread_length tuple (line_spots n 0 tuple) (lines-length n 0 tuple)))
    ∙ noted_both attr value (zip (flat tuple) own) (zip (all_pairs db) rest) before
    ∙ ap (pairs_noted attr value (zip (all_pairs db) rest))
    (tuple_noted attr value n 0 tuple before ∙ lines_give n 0 attr value tuple before (below_apart n before (length before - 1) below))
    ∙ all_noted attr value (n + 1) db (before ++ found) (below_both (n + 1) before found (below_more n before below) (below_one n (position_from (line_has attr value) 0 tuple)))
    ∙ append_assoc before found (spots_from (n + 1) attr value db)

-- all pairs in a row give the spots of a pair
pub placed_noted : (attr value : List ℕ) (db : List (List (List NdbPair))) → pairs_noted attr value (placed db) [] ≡ spots_with attr value db
unfolding Below
placed_noted attr value db = all_noted attr value 0 db [] tt

flat_flat : (db : List (List (List NdbPair))) → length (all_pairs db) ≡ length (flat (flat_map (λ tuple. tuple) db))
unfolding flat
flat_flat [] = refl
flat_flat (tuple ∷ db) =
    omega (
      arith,
      length-append (flat_map (λ (l : List NdbPair). l) tuple) (all_pairs db),
      flat_flat db,
      ap (λ (ps : List NdbPair). length ps) (flat_map-append (λ (l : List NdbPair). l) tuple (flat_map (λ (t : List (List NdbPair)). t) db)),
      length-append (flat_map (λ (l : List NdbPair). l) tuple) (flat_map (λ (l : List NdbPair). l) (flat_map (λ (t : List (List NdbPair)). t) db)),
    )

lines_count : (n : ℕ) (db : List (List (List NdbPair))) → length (all_lines n db) ≡ length (flat_map (λ tuple. tuple) db)
lines_count n [] = refl
lines_count n (tuple ∷ db) =
    omega (arith, length-append (line_spots n 0 tuple) (all_lines (n + 1) db), lines-length n 0 tuple, lines_count (n + 1) db, length-append tuple (flat_map (λ (t : List (List NdbPair)). t) db))

-- there are as many places as pairs
pub spots_length : (db : List (List (List NdbPair))) → length (pair_spots db) ≡ length (all_pairs db)
spots_length db =
    spread_length (flat_map (λ tuple. tuple) db) (all_lines 0 db) (lines_count 0 db) ∙ sym (flat_flat db)

-- One pair more.

pub placed_length : (db : List (List (List NdbPair))) → length (placed db) ≡ length (all_pairs db)
placed_length db = zip_length (all_pairs db) (pair_spots db) (spots_length db)

pub placed_at : (db : List (List (List NdbPair))) (i : ℕ) (x : NdbPair × Spot) → i < length (all_pairs db) → get_or (placed db) i x ≡ (get_or (all_pairs db) i x.0, get_or (pair_spots db) i x.1)
placed_at db i x h = zip_at (all_pairs db) (pair_spots db) i x.0 x.1 (spots_length db) h

-- what is noted of the pair with this number
abbrev pub Notes : List (List (List NdbPair)) → ℕ → List ℕ → List ℕ → List Spot → List Spot → Type 0
Notes db number attr value old new =
    (p : NdbPair) (s : Spot) → new ≡ spots_noted (is_pair attr value (get_or (all_pairs db) number p)) (get_or (pair_spots db) number s) old

pub notes-one : (db : List (List (List NdbPair))) (number : ℕ) (attr value : List ℕ) (old new : List Spot) (item : NdbPair × Spot) → Notes db number attr value old new → number < length (all_pairs db) → get_or (placed db) number item ≡ item → new ≡ spots_noted (is_pair attr value item.0) item.1 old
notes-one db number attr value old new item step h is =
    step item.0 item.1
    ∙ ap (λ (x : NdbPair × Spot). spots_noted (is_pair attr value x.0) x.1 old) (sym (placed_at db number item h) ∙ is)

-- the pairs from a number on
abbrev pub Scans : List (List (List NdbPair)) → ℕ → List ℕ → List ℕ → List Spot → Type 0
Scans db number attr value spots = pairs_noted attr value (drop number (placed db)) spots ≡ spots_with attr value db

pub scans-none : (db : List (List (List NdbPair))) (attr value : List ℕ) (spots : List Spot) → spots ≡ [] → Scans db 0 attr value spots
scans-none db attr value spots none = ap (pairs_noted attr value (placed db)) none ∙ placed_noted attr value db

pub scans-next : (db : List (List (List NdbPair))) (number : ℕ) (attr value : List ℕ) (old new : List Spot) (p : NdbPair) (s : Spot) → number < length (all_pairs db) → Notes db number attr value old new → Scans db number attr value old → Scans db (number + 1) attr value new
scans-next db number attr value old new p s h step so_far =
    let rest : Placed = drop (number + 1) (placed db) in
    let item : NdbPair × Spot = get_or (placed db) number (p, s) in
    ap (pairs_noted attr value rest) (step p s ∙ ap (λ (x : NdbPair × Spot). spots_noted (is_pair attr value x.0) x.1 old) (sym (placed_at db number (p, s) h)))
    ∙ sym (at_drop_more (λ (items : Placed). pairs_noted attr value items old) (placed db) number (p, s) (omega (arith, placed_length db, h)))
    ∙ so_far

pub scans-all : (db : List (List (List NdbPair))) (number : ℕ) (attr value : List ℕ) (spots : List Spot) → length (all_pairs db) ≤ number → Scans db number attr value spots → spots ≡ spots_with attr value db
scans-all db number attr value spots all so_far =
    sym (at_drop_all (λ (items : Placed). pairs_noted attr value items spots) (placed db) number (omega (arith, placed_length db, all))) ∙ so_far

pub taken : {X : Type 0} (n : ℕ) (xs : List X) → n ≤ length xs → length (take n xs) ≡ n
taken zero xs within = refl
taken (suc n) [] within = absurd (omega (arith, within))
taken (suc n) (x ∷ xs) within = ap (λ m. suc m) (taken n xs (omega (arith, within)))
