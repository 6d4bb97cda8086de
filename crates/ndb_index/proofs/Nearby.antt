-- What is near a system: the tuples at its spots, and those of its networks at their places.
use Rattle.std.proofs.Common.{◌≡◌, ℕ, zero, suc, ◌+◌, ◌-◌, ◌<◌, ◌≤◌, ◌==◌, ◌||◌, ◌&&◌, Bool, true, false, cond, List, [], ◌∷◌, ◌++◌, length, get_or, take, map, refl, sym, ap, ◌∙◌, subst, Option, Some, None, arith, append-nil, append_assoc, length-append, unwrap_or}
use Rattle.std.specs.Prelude.{option_map, option_to_list, filter, filter_map, flat_map, codes}
use Rattle.std.specs.Option.{option_map_or, option_or}
use Rattle.std.specs.List.{list_any, cons_option, range_with_len, position_from}
use Rattle.std.proofs.lemmas.Bool.Decides.{nat_tests}
use Rattle.std.proofs.lemmas.List.Elements.{filter_map-append}
use Rattle.std.proofs.lemmas.List.Concat.{flat_map-append}
use Rattle.std.proofs.lemmas.List.{map-append, take_more}
use Rattle.std.proofs.lemmas.Bool.{eqb-true}
use Rattle.net_base.specs.Ndb.{NdbPair}
use Rattle.net_base.specs.Addresses.{read_address}
use Rattle.net_base.specs.Search.{line_has, tuple_has, tuples_with, values_in}
use Rattle.net_base.specs.Networks.{Network, network_of, bits_of, first_of, tuple_names, contains_address, own_networks, addresses_of, longest_first, is_filled, closest}
use Rattle.ndb_search.specs.declared.tuple_numbers.Kind.TheVariants.{Address}
use Rattle.ndb_search.specs.Numbers.{numbers_in}
use Rattle.ndb_search.specs.Places.{tuple_places, places_with}
use Rattle.ndb_search.specs.Closest.{first_filled}
use Rattle.ndb_search.proofs.Shared.{Joins, first_here, first_past, one_filled, none_filled, near_is}
use Rattle.net_base.specs.declared.ndb.spot.Spot.{Spot}
use Rattle.net_base.specs.Spots.{spot_at}
use Rattle.ndb_index.specs.Kept.{spot_in, spots_from, spots_with}
use Rattle.ndb_index.specs.Nets.{is_own_network, own_places, longest_places}
use Rattle.ndb_index.specs.Index.{near_count}
use Rattle.ndb_index.specs.Near.{AreWithinNear, FindsPlaces, SpotsWithin, tuples_at, spot_tuples, numbers_of}
use Rattle.net_base.proofs.Shared.{length_map}

abbrev pub Db : Type 0
Db = List (List (List NdbPair))

-- Spots and places.

abbrev places : List Spot → List ℕ
places spots = map (λ spot. spot.place) spots

any_position : (attr value : List ℕ) (number : ℕ) (lines : List (List NdbPair)) (place : ℕ) → places (option_to_list (option_map (spot_at place) (position_from (line_has attr value) number lines))) ≡ cond (tuple_has attr value lines) (place ∷ []) []
any_position attr value number [] place = refl
any_position attr value number (line ∷ lines) place = at (line_has attr value line) (any_position attr value (number + 1) lines place)
  where
    at : (b : Bool) → places (option_to_list (option_map (spot_at place) (position_from (line_has attr value) (number + 1) lines))) ≡ cond (tuple_has attr value lines) (place ∷ []) [] → places (option_to_list (option_map (spot_at place) (cond b (Some number) (position_from (line_has attr value) (number + 1) lines)))) ≡ cond (b || tuple_has attr value lines) (place ∷ []) []
    at true rest = refl
    at false rest = rest

spots_placed : (attr value : List ℕ) (number : ℕ) (db : Db) → places (spots_from number attr value db) ≡ tuple_places (tuple_has attr value) number db
spots_placed attr value number [] = refl
spots_placed attr value number (tuple ∷ db) =
    map-append (λ spot. spot.place) (option_to_list (spot_in number attr value tuple)) (spots_from (number + 1) attr value db)
    ∙ ap (λ front. front ++ places (spots_from (number + 1) attr value db)) (any_position attr value 0 tuple number)
    ∙ ap (λ back. cond (tuple_has attr value tuple) (number ∷ []) [] ++ back) (spots_placed attr value (number + 1) db)
    ∙ at (tuple_has attr value tuple)
  where
    at : (b : Bool) → cond b (number ∷ []) [] ++ tuple_places (tuple_has attr value) (number + 1) db ≡ cond b (number ∷ tuple_places (tuple_has attr value) (number + 1) db) (tuple_places (tuple_has attr value) (number + 1) db)
    at true = refl
    at false = refl

-- the places of a pair's spots are those of the tuples that contain it
pub spots_are_places : (attr value : List ℕ) (db : Db) → places (spots_with attr value db) ≡ places_with attr value db
spots_are_places attr value db = spots_placed attr value 0 db

get_behind : (before : Db) (tuple : List (List NdbPair)) (db : Db) → get_or (before ++ tuple ∷ db) (length before) [] ≡ tuple
get_behind [] tuple db = refl
get_behind (t ∷ before) tuple db = get_behind before tuple db

found_from : (test : List (List NdbPair) → Bool) (before db : Db) (n : ℕ) → n ≡ length before → tuples_at (before ++ db) (tuple_places test n db) ≡ filter test db
found_from test before [] n e = refl
found_from test before (tuple ∷ db) n e =
    at (test tuple)
    (ap (λ (all : Db). tuples_at all (tuple_places test (n + 1) db)) (sym (append_assoc before (tuple ∷ []) db))
    ∙ found_from test (before ++ tuple ∷ []) db (n + 1) (omega (arith, e, length-append before (tuple ∷ []))))
  where
    at : (b : Bool) → tuples_at (before ++ tuple ∷ db) (tuple_places test (n + 1) db) ≡ filter test db → tuples_at (before ++ tuple ∷ db) (cond b (n ∷ tuple_places test (n + 1) db) (tuple_places test (n + 1) db)) ≡ cond b (tuple ∷ filter test db) (filter test db)
    at true rest =
        ap (λ t. t ∷ tuples_at (before ++ tuple ∷ db) (tuple_places test (n + 1) db)) (ap (λ i. get_or (before ++ tuple ∷ db) i []) e ∙ get_behind before tuple db)
        ∙ ap (λ tuples. tuple ∷ tuples) rest
    at false rest = rest

-- the tuples at the places of those that pass
pub tuples_found : (test : List (List NdbPair) → Bool) (db : Db) → tuples_at db (tuple_places test 0 db) ≡ filter test db
tuples_found test db = found_from test [] db 0 refl

map_twice : {X Y Z : Type 0} (g : Y → Z) (f : X → Y) (xs : List X) → map g (map f xs) ≡ map (λ x. g (f x)) xs
map_twice g f [] = refl
map_twice g f (x ∷ xs) = ap (λ rest. g (f x) ∷ rest) (map_twice g f xs)

-- the tuples at a pair's spots are those that contain it
pub spots_found : (attr value : List ℕ) (db : Db) → spot_tuples db (spots_with attr value db) ≡ tuples_with attr value db
spots_found attr value db =
    sym (map_twice (λ place. get_or db place []) (λ (spot : Spot). spot.place) (spots_with attr value db))
    ∙ ap (tuples_at db) (spots_are_places attr value db)
    ∙ tuples_found (tuple_has attr value) db

-- Places are in the database.

AllBelow : ℕ → List ℕ → Type 0
AllBelow n [] = Unit {0}
AllBelow n (p ∷ ps) = (p < n) × AllBelow n ps

below_places : (test : List (List NdbPair) → Bool) (number : ℕ) (db : Db) (n : ℕ) → number + length db ≤ n → AllBelow n (tuple_places test number db)
unfolding AllBelow
below_places test number [] n within = tt
below_places test number (tuple ∷ db) n within = at (test tuple) (below_places test (number + 1) db n (omega (arith, within)))
  where
    at : (b : Bool) → AllBelow n (tuple_places test (number + 1) db) → AllBelow n (cond b (number ∷ tuple_places test (number + 1) db) (tuple_places test (number + 1) db))
    at true rest = (omega (arith, within), rest)
    at false rest = rest

below_append : (n : ℕ) (xs ys : List ℕ) → AllBelow n xs → AllBelow n ys → AllBelow n (xs ++ ys)
unfolding AllBelow
below_append n [] ys a b = b
below_append n (x ∷ xs) ys a b = (a.0, below_append n xs ys a.1 b)

below_longest : (ips : List ℕ) (db : Db) (range : List ℕ) → AllBelow (length db) (flat_map (λ ones. own_places (32 - ones) ips db) range)
unfolding AllBelow
below_longest ips db [] = tt
below_longest ips db (ones ∷ range) =
    below_append (length db) (own_places (32 - ones) ips db) (flat_map (λ o. own_places (32 - o) ips db) range)
    (below_places (is_own_network (32 - ones) ips) 0 db (length db) (omega arith)) (below_longest ips db range)

at_place : (n : ℕ) (ps : List ℕ) → AllBelow n ps → (i : ℕ) → i < length ps → get_or ps i 0 < n
unfolding AllBelow
at_place n [] below i within = absurd (omega (arith, within))
at_place n (p ∷ ps) below zero within = below.0
at_place n (p ∷ ps) below (suc i) within = at_place n ps below.1 i (omega (arith, within))

pub places_within : (test : List (List NdbPair) → Bool) (db : Db) → AreWithinNear db (tuple_places test 0 db)
places_within test db = at_place (length db) (tuple_places test 0 db) (below_places test 0 db (length db) (omega arith))

pub longest_within : (ips : List ℕ) (db : Db) → AreWithinNear db (longest_places ips db)
longest_within ips db = at_place (length db) (longest_places ips db) (below_longest ips db (range_with_len 0 33))

spot_at_place : (n : ℕ) (spots : List Spot) → AllBelow n (places spots) → (i : ℕ) (d : Spot) → i < length spots → (get_or spots i d).place < n
unfolding AllBelow
spot_at_place n [] below i d within = absurd (omega (arith, within))
spot_at_place n (spot ∷ spots) below zero d within = below.0
spot_at_place n (spot ∷ spots) below (suc i) d within = spot_at_place n spots below.1 i d (omega (arith, within))

pub spots_within : (attr value : List ℕ) (db : Db) → SpotsWithin db (spots_with attr value db)
spots_within attr value db =
    spot_at_place (length db) (spots_with attr value db)
    (subst (AllBelow (length db)) (sym (spots_are_places attr value db)) (below_places (tuple_has attr value) 0 db (length db) (omega arith)))

-- Networks and their tuples.

network_tuple : (tuple : List (List NdbPair)) (network : Network) → network_of tuple ≡ Some network → network.tuple ≡ tuple
network_tuple tuple network e = at (tuple_names (codes "ipnet") tuple) (first_of (filter_map read_address (values_in (codes "ip") tuple))) e
  where
    some_is : (a b : Network) → Some a ≡ Some b → a ≡ b
    some_is a b f = cc

    at : (b : Bool) (ip : Option ℕ) → cond b (option_map (λ ip. record { ip = ip; bits = bits_of ip tuple; tuple = tuple }) ip) None ≡ Some network → network.tuple ≡ tuple
    at true (Some ip) f = sym (ap (λ (n : Network). n.tuple) (some_is (record { ip = ip; bits = bits_of ip tuple; tuple = tuple }) network f))
    at true None f = absurd cc
    at false ip f = absurd cc

own_at : ℕ → List ℕ → List Network → List Network
own_at bits ips networks = filter (λ network. network.bits == bits) (filter (λ network. list_any (contains_address network) ips) networks)

-- the tuples of the networks of one length
own_tuples : (bits : ℕ) (ips : List ℕ) (db : Db) → map (λ network. network.tuple) (own_at bits ips (filter_map network_of db)) ≡ filter (is_own_network bits ips) db
unfolding own_at
own_tuples bits ips [] = refl
own_tuples bits ips (tuple ∷ db) = at (network_of tuple) refl (own_tuples bits ips db)
  where
    of_length : (network : Network) (same own : Bool) → network.tuple ≡ tuple → (network.bits == bits) ≡ same → map (λ n. n.tuple) (own_at bits ips (filter_map network_of db)) ≡ filter (is_own_network bits ips) db → map (λ n. n.tuple) (filter (λ n. n.bits == bits) (cond own (network ∷ filter (λ n. list_any (contains_address n) ips) (filter_map network_of db)) (filter (λ n. list_any (contains_address n) ips) (filter_map network_of db)))) ≡ cond (same && own) (tuple ∷ filter (is_own_network bits ips) db) (filter (is_own_network bits ips) db)
    of_length network true true here e rest =
        ap (λ b. map (λ n. n.tuple) (cond b (network ∷ own_at bits ips (filter_map network_of db)) (own_at bits ips (filter_map network_of db)))) e
        ∙ ap (λ t. t ∷ map (λ n. n.tuple) (own_at bits ips (filter_map network_of db))) here
        ∙ ap (λ ts. tuple ∷ ts) rest
    of_length network false true here e rest =
        ap (λ b. map (λ n. n.tuple) (cond b (network ∷ own_at bits ips (filter_map network_of db)) (own_at bits ips (filter_map network_of db)))) e ∙ rest
    of_length network true false here e rest = rest
    of_length network false false here e rest = rest

    at : (o : Option Network) → network_of tuple ≡ o → map (λ n. n.tuple) (own_at bits ips (filter_map network_of db)) ≡ filter (is_own_network bits ips) db → map (λ n. n.tuple) (own_at bits ips (cons_option o (filter_map network_of db))) ≡ cond (option_map_or (λ network. network.bits == bits && list_any (contains_address network) ips) o false) (tuple ∷ filter (is_own_network bits ips) db) (filter (is_own_network bits ips) db)
    at None e rest = rest
    at (Some network) e rest = of_length network (network.bits == bits) (list_any (contains_address network) ips) (network_tuple tuple network e) refl rest

ranged : (ips : List ℕ) (db : Db) (range : List ℕ) → tuples_at db (flat_map (λ ones. own_places (32 - ones) ips db) range) ≡ map (λ network. network.tuple) (flat_map (λ ones. own_at (32 - ones) ips (filter_map network_of db)) range)
unfolding own_at
ranged ips db [] = refl
ranged ips db (ones ∷ range) =
    map-append (λ place. get_or db place []) (own_places (32 - ones) ips db) (flat_map (λ o. own_places (32 - o) ips db) range)
    ∙ ap (λ front. front ++ tuples_at db (flat_map (λ o. own_places (32 - o) ips db) range)) (tuples_found (is_own_network (32 - ones) ips) db ∙ sym (own_tuples (32 - ones) ips db))
    ∙ ap (λ back. map (λ n. n.tuple) (own_at (32 - ones) ips (filter_map network_of db)) ++ back) (ranged ips db range)
    ∙ sym (map-append (λ network. network.tuple) (own_at (32 - ones) ips (filter_map network_of db)) (flat_map (λ o. own_at (32 - o) ips (filter_map network_of db)) range))

-- the tuples of a system's own networks, those with the longest mask first
pub longest_tuples : (me : List ℕ) (db : Db) → tuples_at db (longest_places (addresses_of me db) db) ≡ map (λ network. network.tuple) (longest_first (own_networks me db))
unfolding own_at
longest_tuples me db = ranged (addresses_of me db) db (range_with_len 0 33)

-- How many they are.

ones : (ℕ → Bool) → List ℕ → ℕ
ones test [] = 0
ones test (n ∷ ns) = cond (test n) (1 + ones test ns) (ones test ns)

-- one more network stands in each part whose test it passes
split : (q : ℕ → Network → Bool) (network : Network) (networks : List Network) (range : List ℕ) → length (flat_map (λ o. filter (q o) (network ∷ networks)) range) ≡ ones (λ o. q o network) range + length (flat_map (λ o. filter (q o) networks) range)
unfolding ones
split q network networks [] = refl
split q network networks (o ∷ range) =
    length-append (filter (q o) (network ∷ networks)) (flat_map (λ k. filter (q k) (network ∷ networks)) range)
    ∙ ap (λ n. length (filter (q o) (network ∷ networks)) + n) (split q network networks range)
    ∙ at (q o network)
    ∙ ap (λ n. cond (q o network) (1 + ones (λ k. q k network) range) (ones (λ k. q k network) range) + n) (sym (length-append (filter (q o) networks) (flat_map (λ k. filter (q k) networks) range)))
  where
    at : (b : Bool) → length (cond b (network ∷ filter (q o) networks) (filter (q o) networks)) + (ones (λ k. q k network) range + length (flat_map (λ k. filter (q k) networks) range)) ≡ cond b (1 + ones (λ k. q k network) range) (ones (λ k. q k network) range) + (length (filter (q o) networks) + length (flat_map (λ k. filter (q k) networks) range))
    at true = omega arith
    at false = omega arith

none_after : (bits a k : ℕ) → a + k ≤ 33 → 32 - a < bits → ones (λ o. bits == 32 - o) (range_with_len a k) ≡ 0
unfolding ones
none_after bits a zero within above = refl
none_after bits a (suc k) within above =
    let other : (bits == 32 - a) ≡ false = grind (arith, nat_tests, above) in
    ap (λ b. cond b (1 + ones (λ o. bits == 32 - o) (range_with_len (a + 1) k)) (ones (λ o. bits == 32 - o) (range_with_len (a + 1) k))) other
    ∙ none_after bits (a + 1) k (omega (arith, within)) (omega (arith, above))

-- one length is that of one number of the range at most
one_of : (bits a k : ℕ) → a + k ≤ 33 → ones (λ o. bits == 32 - o) (range_with_len a k) ≤ 1
unfolding ones
one_of bits a zero within = omega arith
one_of bits a (suc k) within = at (bits == 32 - a) refl (one_of bits (a + 1) k (omega (arith, within)))
  where
    after : (k : ℕ) → a + suc k ≤ 33 → bits ≡ 32 - a → ones (λ o. bits == 32 - o) (range_with_len (a + 1) k) ≡ 0
    after zero short same = refl
    after (suc k) short same = none_after bits (a + 1) (suc k) (omega (arith, short)) (omega (arith, short, same))

    at : (b : Bool) → (bits == 32 - a) ≡ b → ones (λ o. bits == 32 - o) (range_with_len (a + 1) k) ≤ 1 → cond b (1 + ones (λ o. bits == 32 - o) (range_with_len (a + 1) k)) (ones (λ o. bits == 32 - o) (range_with_len (a + 1) k)) ≤ 1
    at true e rest = omega (arith, after k within (eqb-true bits (32 - a) e))
    at false e rest = rest

-- no network is counted twice
pub longest_count : (networks : List Network) → length (longest_first networks) ≤ length networks
longest_count [] = omega (arith, none (range_with_len 0 33))
  where
    none : (range : List ℕ) → length (flat_map (λ o. filter (λ (n : Network). n.bits == 32 - o) []) range) ≡ 0
    none [] = refl
    none (o ∷ range) = none range
longest_count (network ∷ networks) =
    omega (arith, split (λ o n. n.bits == 32 - o) network networks (range_with_len 0 33), one_of network.bits 0 33 (omega arith), longest_count networks)

-- a system has as many spots as tuples, and its networks' places are no more than they
pub spots_count : (attr value : List ℕ) (db : Db) → length (spots_with attr value db) ≡ length (tuples_with attr value db)
spots_count attr value db =
    sym (length_map (λ spot. get_or db spot.place []) (spots_with attr value db)) ∙ ap (λ (ts : Db). length ts) (spots_found attr value db)

-- places of the tuples that contain a pair find these
pub all_found : (attr value : List ℕ) (db : Db) (found : List ℕ) → found ≡ places_with attr value db → FindsPlaces db attr value found
all_found attr value db found are =
    let tuples = ap (tuples_at db) are ∙ tuples_found (tuple_has attr value) db in
    record {
      within = subst (AreWithinNear db) (sym are) (places_within (tuple_has attr value) db);
      tuples = tuples;
      count = sym (length_map (λ place. get_or db place []) found) ∙ ap (λ (ts : Db). length ts) tuples;
    }

pub places_count : (me : List ℕ) (db : Db) → length (longest_places (addresses_of me db) db) ≤ length (own_networks me db)
places_count me db =
    let same : length (longest_places (addresses_of me db) db) ≡ length (longest_first (own_networks me db)) =
    sym (length_map (λ place. get_or db place []) (longest_places (addresses_of me db) db)) ∙ ap (λ (ts : Db). length ts) (longest_tuples me db)
    ∙ length_map (λ network. network.tuple) (longest_first (own_networks me db)) in
    omega (arith, same, longest_count (own_networks me db))

-- The addresses of a system.

-- the addresses in tuples, one by one and all at once
pub numbers_are : (tuples : Db) → numbers_of tuples ≡ filter_map read_address (flat_map (values_in (codes "ip")) tuples)
numbers_are [] = refl
numbers_are (tuple ∷ tuples) =
    ap (λ back. numbers_in Address tuple ++ back) (numbers_are tuples)
    ∙ sym (filter_map-append read_address (values_in (codes "ip") tuple) (flat_map (values_in (codes "ip")) tuples))

pub addresses_are : (me : List ℕ) (db : Db) → numbers_of (spot_tuples db (spots_with (codes "sys") me db)) ≡ addresses_of me db
addresses_are me db = ap numbers_of (spots_found (codes "sys") me db) ∙ numbers_are (tuples_with (codes "sys") me db)

-- Pieces of the loops.

pub spots_join : (db : Db) → Joins (spot_tuples db)
spots_join db = record { none = refl; both = map-append (λ spot. get_or db spot.place []) }

pub places_join : (db : Db) → Joins (tuples_at db)
places_join db = record { none = refl; both = map-append (λ place. get_or db place []) }

pub same_default : {X : Type 0} (xs : List X) (i : ℕ) (d e : X) → i < length xs → get_or xs i d ≡ get_or xs i e
same_default [] i d e within = absurd (omega (arith, within))
same_default (x ∷ xs) zero d e within = refl
same_default (x ∷ xs) (suc i) d e within = same_default xs i d e (omega (arith, within))

-- one more spot's piece of what its tuple gives
pub pieces_more : {Y : Type 0} (f : List (List NdbPair) → List Y) (db : Db) (spots : List Spot) (i : ℕ) (d : Spot) (tuple : List (List NdbPair)) (initial now after : List Y) → i < length spots → tuple ≡ get_or db (get_or spots i d).place [] → now ≡ initial ++ flat_map f (spot_tuples db (take i spots)) → after ≡ now ++ f tuple → after ≡ initial ++ flat_map f (spot_tuples db (take (i + 1) spots))
pieces_more {Y} f db spots i d tuple initial now after within is so_far put =
    put
    ∙ ap (λ (front : List Y). front ++ f tuple) so_far
    ∙ append_assoc initial (flat_map f (spot_tuples db (take i spots))) (f tuple)
    ∙ ap (λ (back : List Y). initial ++ back)
    (ap (λ t. flat_map f (spot_tuples db (take i spots)) ++ f t) is
    ∙ ap (λ (back : List Y). flat_map f (spot_tuples db (take i spots)) ++ back) (sym (append-nil (f (get_or db (get_or spots i d).place []))))
    ∙ sym (ap (λ (ss : List Spot). flat_map f (spot_tuples db ss)) (take_more spots i d within)
    ∙ ap (flat_map f) (map-append (λ s. get_or db s.place []) (take i spots) (get_or spots i d ∷ []))
    ∙ flat_map-append f (spot_tuples db (take i spots)) (get_or db (get_or spots i d).place [] ∷ [])))

-- one more spot's addresses
pub numbers_more : (db : Db) (spots : List Spot) (i : ℕ) (d : Spot) (tuple : List (List NdbPair)) (initial now after : List ℕ) → i < length spots → tuple ≡ get_or db (get_or spots i d).place [] → now ≡ initial ++ numbers_of (spot_tuples db (take i spots)) → after ≡ now ++ numbers_in Address tuple → after ≡ initial ++ numbers_of (spot_tuples db (take (i + 1) spots))
numbers_more = pieces_more (numbers_in Address)

-- The first that has values.

pub here_first : {X : Type 0} (attr : List ℕ) (F : List X → Db) → Joins F → (xs : List X) (i : ℕ) (x : X) (tuple : List (List NdbPair)) (values : List (List ℕ)) → i < length xs → x ≡ get_or xs i x → F (x ∷ []) ≡ tuple ∷ [] → values ≡ filter is_filled (values_in attr tuple) → 0 < length values → first_filled attr (F (take i xs)) ≡ None → Some values ≡ first_filled attr (F xs)
here_first attr F joins xs i x tuple values within here one is some none =
    sym (first_here attr F joins xs i x values within here none
    (ap (first_filled attr) one ∙ one_filled attr tuple (subst (λ (vs : List (List ℕ)). 0 < length vs) is some) ∙ ap Some (sym is)))

pub here_none : {X : Type 0} (attr : List ℕ) (F : List X → Db) → Joins F → (xs : List X) (i : ℕ) (x : X) (tuple : List (List NdbPair)) (values : List (List ℕ)) → i < length xs → x ≡ get_or xs i x → F (x ∷ []) ≡ tuple ∷ [] → values ≡ filter is_filled (values_in attr tuple) → length values ≡ 0 → first_filled attr (F (take i xs)) ≡ None → first_filled attr (F (take (i + 1) xs)) ≡ None
here_none attr F joins xs i x tuple values within here one is empty none =
    first_past attr F joins xs i x within here none
    (ap (first_filled attr) one ∙ none_filled attr tuple (ap (λ (vs : List (List ℕ)). length vs) (sym is) ∙ empty))

pub spot_first : (attr : List ℕ) (db : Db) (spots : List Spot) (i : ℕ) (d : Spot) (tuple : List (List NdbPair)) (values : List (List ℕ)) → i < length spots → tuple ≡ get_or db (get_or spots i d).place [] → values ≡ filter is_filled (values_in attr tuple) → 0 < length values → first_filled attr (spot_tuples db (take i spots)) ≡ None → Some values ≡ first_filled attr (spot_tuples db spots)
spot_first attr db spots i d tuple values within tuple_is =
    here_first attr (spot_tuples db) (spots_join db) spots i (get_or spots i d) tuple values within
    (same_default spots i d (get_or spots i d) within) (ap (λ (t : List (List NdbPair)). t ∷ []) (sym tuple_is))

pub spot_none : (attr : List ℕ) (db : Db) (spots : List Spot) (i : ℕ) (d : Spot) (tuple : List (List NdbPair)) (values : List (List ℕ)) → i < length spots → tuple ≡ get_or db (get_or spots i d).place [] → values ≡ filter is_filled (values_in attr tuple) → length values ≡ 0 → first_filled attr (spot_tuples db (take i spots)) ≡ None → first_filled attr (spot_tuples db (take (i + 1) spots)) ≡ None
spot_none attr db spots i d tuple values within tuple_is =
    here_none attr (spot_tuples db) (spots_join db) spots i (get_or spots i d) tuple values within
    (same_default spots i d (get_or spots i d) within) (ap (λ (t : List (List NdbPair)). t ∷ []) (sym tuple_is))

-- what is closest, where the system's tuples have values, where its networks have, and where none has
pub closest_first : (attr me : List ℕ) (db : Db) (values : List (List ℕ)) → Some values ≡ first_filled attr (spot_tuples db (spots_with (codes "sys") me db)) → values ≡ closest attr me db
closest_first attr me db values found =
    sym (near_is attr me db
    ∙ ap (λ o. unwrap_or (option_or o (first_filled attr (map (λ network. network.tuple) (longest_first (own_networks me db))))) [])
    (ap (first_filled attr) (sym (spots_found (codes "sys") me db)) ∙ sym found))

pub closest_second : (attr me : List ℕ) (db : Db) (ips own : List ℕ) (found : Option (List (List ℕ))) → None ≡ first_filled attr (spot_tuples db (spots_with (codes "sys") me db)) → ips ≡ addresses_of me db → own ≡ longest_places ips db → found ≡ first_filled attr (tuples_at db own) → unwrap_or found [] ≡ closest attr me db
closest_second attr me db ips own found none ips_are own_are is =
    sym (near_is attr me db
    ∙ ap (λ o. unwrap_or (option_or o (first_filled attr (map (λ network. network.tuple) (longest_first (own_networks me db))))) [])
    (ap (first_filled attr) (sym (spots_found (codes "sys") me db)) ∙ sym none)
    ∙ ap (λ ts. unwrap_or (first_filled attr ts) []) (sym (longest_tuples me db))
    ∙ ap (λ ps. unwrap_or (first_filled attr (tuples_at db ps)) []) (ap (λ ns. longest_places ns db) (sym ips_are) ∙ sym own_are)
    ∙ ap (λ o. unwrap_or o []) (sym is))

-- What a search of what is closest costs, and the addresses that it meets.

pub mine_cost : (me : List ℕ) (db : Db) (mine : List Spot) → mine ≡ spots_with (codes "sys") me db → length mine ≤ near_count me db
mine_cost me db mine are = omega (arith, ap (λ (spots : List Spot). length spots) are, spots_count (codes "sys") me db)

pub near_cost : (me : List ℕ) (db : Db) (mine : List Spot) (own : List ℕ) → mine ≡ spots_with (codes "sys") me db → own ≡ longest_places (addresses_of me db) db → length mine + length own ≤ near_count me db
near_cost me db mine own mine_are own_are =
    omega (arith, ap (λ (spots : List Spot). length spots) mine_are, spots_count (codes "sys") me db, ap (λ (ps : List ℕ). length ps) own_are, places_count me db)

pub met_are : (me : List ℕ) (db : Db) (mine : List Spot) (first ips : List ℕ) → mine ≡ spots_with (codes "sys") me db → first ≡ [] → ips ≡ first ++ numbers_of (spot_tuples db mine) → ips ≡ addresses_of me db
met_are me db mine first ips mine_are empty met =
    met ∙ ap (λ (front : List ℕ). front ++ numbers_of (spot_tuples db mine)) empty
    ∙ ap (λ (spots : List Spot). numbers_of (spot_tuples db spots)) mine_are ∙ addresses_are me db
