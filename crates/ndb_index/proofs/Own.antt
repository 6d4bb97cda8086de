-- A system's own networks: their places, kept by first bits, and in order.
use Rattle.std.proofs.Common.{◌≡◌, ℕ, ◌+◌, ◌-◌, ◌<◌, ◌≤◌, ◌==◌, ◌||◌, ◌&&◌, nat_eq, nat_lt, Bool, true, false, cond, List, [], ◌∷◌, ◌++◌, length, get_or, take, refl, sym, ap, ◌∙◌, Option, Some, None, arith}
use Rattle.std.specs.Option.{option_map_or}
use Rattle.std.specs.List.{list_any, AllByRecursion}
use Rattle.std.specs.List.Sorted.{IsStrictlySortedBy}
use Rattle.std.specs.Ordering.{nat_cmp, match_ordering}
use Rattle.std.specs.declared.cmp.Ordering.TheVariants.{Less, Equal, Greater}
use Rattle.std.specs.BTreeSet.{insert_key}
use Rattle.std.proofs.lemmas.Bool.Decides.{nat_tests}
use Rattle.std.proofs.lemmas.List.Folds.{list_any-append}
use Rattle.std.proofs.lemmas.List.{take_more}
use Rattle.std.proofs.lemmas.Bool.{eqb-true}
use Rattle.net_base.specs.Ndb.{NdbPair}
use Rattle.net_base.specs.Networks.{Network, network_of, contains_address}
use Rattle.ndb_search.specs.declared.prefixes.Prefix.{Prefix}
use Rattle.ndb_search.specs.Prefixes.{first_bits, is_prefix}
use Rattle.ndb_search.specs.Places.{tuple_places}
use Rattle.ndb_search.proofs.Shared.{same_any, turned}
use Rattle.ndb_index.specs.Nets.{prefix, has_prefix, has_length, places_kept, place_noted, HasPlaces, is_place_among, is_own_network, own_places}
use Rattle.net_base.proofs.Shared.{number_itself, or_none}

abbrev pub Db : Type 0
Db = List (List (List NdbPair))

abbrev pub Kept : Type 0
Kept = List (Prefix × List ℕ)

-- What is noted.

places_push : (test : List (List NdbPair) → Bool) (number : ℕ) (db : Db) (tuple : List (List NdbPair)) (place : ℕ) → number + length db ≡ place → tuple_places test number (db ++ tuple ∷ []) ≡ place_noted (test tuple) place (tuple_places test number db)
places_push test number [] tuple place at = by (test tuple)
  where
    by : (b : Bool) → cond b (number ∷ []) [] ≡ place_noted b place []
    by true = ap (λ n. n ∷ []) (omega (arith, at))
    by false = refl
places_push test number (t ∷ db) tuple place at = by (test t) (places_push test (number + 1) db tuple place (omega (arith, at)))
  where
    outside : (b : Bool) (n : ℕ) (ns : List ℕ) → n ∷ place_noted b place ns ≡ place_noted b place (n ∷ ns)
    outside true n ns = refl
    outside false n ns = refl

    by : (b : Bool) → tuple_places test (number + 1) (db ++ tuple ∷ []) ≡ place_noted (test tuple) place (tuple_places test (number + 1) db) → cond b (number ∷ tuple_places test (number + 1) (db ++ tuple ∷ [])) (tuple_places test (number + 1) (db ++ tuple ∷ [])) ≡ place_noted (test tuple) place (cond b (number ∷ tuple_places test (number + 1) db) (tuple_places test (number + 1) db))
    by true rest = ap (λ ns. number ∷ ns) rest ∙ outside (test tuple) number (tuple_places test (number + 1) db)
    by false rest = rest

-- one more tuple
pub places_more : (test : List (List NdbPair) → Bool) (db : Db) (place : ℕ) (tuple : List (List NdbPair)) (now after : List ℕ) → place < length db → tuple ≡ get_or db place tuple → length (take place db) ≡ place → now ≡ tuple_places test 0 (take place db) → after ≡ place_noted (test tuple) place now → after ≡ tuple_places test 0 (take (place + 1) db)
places_more test db place tuple now after within here whole so_far put =
    put
    ∙ ap (place_noted (test tuple) place) so_far
    ∙ ap (λ t. place_noted (test t) place (tuple_places test 0 (take place db))) here
    ∙ sym (ap (tuple_places test 0) (take_more db place tuple within) ∙ places_push test 0 (take place db) (get_or db place tuple) place (omega (arith, whole)))

or_turned : (a b : Bool) → (a || b) ≡ (b || a)
or_turned true true = refl
or_turned true false = refl
or_turned false true = refl
or_turned false false = refl

pub any_more : {X : Type 0} (test : X → Bool) (xs : List X) (i : ℕ) (x : X) (now after : Bool) → i < length xs → x ≡ get_or xs i x → now ≡ list_any test (take i xs) → after ≡ (test x || now) → after ≡ list_any test (take (i + 1) xs)
any_more test xs i x now after within here so_far put =
    put
    ∙ ap (λ b. test x || b) so_far
    ∙ or_turned (test x) (list_any test (take i xs))
    ∙ ap (λ y. list_any test (take i xs) || test y) here
    ∙ sym (ap (list_any test) (take_more xs i x within) ∙ list_any-append test (take i xs) (get_or xs i x ∷ []) ∙ ap (λ b. list_any test (take i xs) || b) (or_none (test (get_or xs i x))))

-- Places in order.

Above : ℕ → List ℕ → Type 0
Above n [] = Unit {0}
Above n (x ∷ xs) = (n < x) × Above n xs

Ascends : List ℕ → Type 0
Ascends [] = Unit {0}
Ascends (x ∷ xs) = Above x xs × Ascends xs

less_is : (x y : ℕ) → nat_cmp x y ≡ Less → x < y
less_is x y e = at (nat_lt x y) refl (x == y) e
  where
    at : (b : Bool) → nat_lt x y ≡ b → (c : Bool) → cond b Less (cond c Equal Greater) ≡ Less → x < y
    at true h c f = grind (arith, nat_tests, h)
    at false h true f = absurd cc
    at false h false f = absurd cc

above_all : (x : ℕ) (xs : List ℕ) → AllByRecursion (λ y. nat_cmp x y ≡ Less) xs → Above x xs
unfolding Above
above_all x [] all = tt
above_all x (y ∷ ys) all = (less_is x y all.0, above_all x ys all.1)

ascends : (xs : List ℕ) → IsStrictlySortedBy nat_cmp xs → Ascends xs
unfolding Ascends IsStrictlySortedBy
ascends [] sorted = tt
ascends (x ∷ xs) sorted = (above_all x xs sorted.0, ascends xs sorted.1)

places_above : (n number : ℕ) (test : List (List NdbPair) → Bool) (db : Db) → n < number → Above n (tuple_places test number db)
unfolding Above
places_above n number test [] below = tt
places_above n number test (tuple ∷ db) below = at (test tuple) (places_above n (number + 1) test db (omega (arith, below)))
  where
    at : (b : Bool) → Above n (tuple_places test (number + 1) db) → Above n (cond b (number ∷ tuple_places test (number + 1) db) (tuple_places test (number + 1) db))
    at true rest = (below, rest)
    at false rest = rest

places_ascend : (number : ℕ) (test : List (List NdbPair) → Bool) (db : Db) → Ascends (tuple_places test number db)
unfolding Ascends
places_ascend number test [] = tt
places_ascend number test (tuple ∷ db) = at (test tuple) (places_ascend (number + 1) test db)
  where
    at : (b : Bool) → Ascends (tuple_places test (number + 1) db) → Ascends (cond b (number ∷ tuple_places test (number + 1) db) (tuple_places test (number + 1) db))
    at true rest = (places_above number (number + 1) test db (omega arith), rest)
    at false rest = rest

apart : (q x : ℕ) (xs : List ℕ) → Above x xs → q ≤ x → is_place_among q xs ≡ false
unfolding Above
apart q x [] above below = refl
apart q x (y ∷ ys) above below =
    let other : nat_eq q y ≡ false = grind (arith, nat_tests, above.0) in
    ap (λ b. b || is_place_among q ys) other ∙ apart q x ys above.1 below

same_head : (x y : ℕ) (xs ys : List ℕ) → Above x xs → Above y ys → is_place_among x (x ∷ xs) ≡ is_place_among x (y ∷ ys) → is_place_among y (x ∷ xs) ≡ is_place_among y (y ∷ ys) → x ≡ y
same_head x y xs ys above_x above_y at_x at_y = by (nat_lt x y) refl (nat_lt y x) refl
  where
    own : (n : ℕ) (ns : List ℕ) → is_place_among n (n ∷ ns) ≡ true
    own n ns = ap (λ b. b || is_place_among n ns) (number_itself n)

    other : (n m : ℕ) (ms : List ℕ) → Above m ms → n < m → is_place_among n (m ∷ ms) ≡ false
    other n m ms above less =
        let differs : nat_eq n m ≡ false = grind (arith, nat_tests, less) in
        ap (λ b. b || is_place_among n ms) differs ∙ apart n m ms above (omega (arith, less))

    by : (b : Bool) → nat_lt x y ≡ b → (c : Bool) → nat_lt y x ≡ c → x ≡ y
    by true e c f = let clash : true ≡ false = sym (own x xs) ∙ at_x ∙ other x y ys above_y (grind (arith, nat_tests, e)) in absurd (cc)
    by false e true f = let clash : true ≡ false = sym (own y ys) ∙ sym at_y ∙ other y x xs above_x (grind (arith, nat_tests, f)) in absurd (cc)
    by false e false f = grind (arith, nat_tests, e, f)

same_lists : (xs ys : List ℕ) → Ascends xs → Ascends ys → ((q : ℕ) → is_place_among q xs ≡ is_place_among q ys) → xs ≡ ys
unfolding Ascends
same_lists [] [] up_x up_y same = refl
same_lists [] (y ∷ ys) up_x up_y same = let clash : false ≡ true = same y ∙ ap (λ b. b || is_place_among y ys) (number_itself y) in absurd (cc)
same_lists (x ∷ xs) [] up_x up_y same = let clash : true ≡ false = sym (ap (λ b. b || is_place_among x xs) (number_itself x)) ∙ same x in absurd (cc)
same_lists (x ∷ xs) (y ∷ ys) up_x up_y same =
    ap (λ n. n ∷ xs) head ∙ ap (λ ns. y ∷ ns) (same_lists xs ys up_x.1 up_y.1 (λ q. tail q (nat_eq q x) refl))
  where
    head : x ≡ y
    head = same_head x y xs ys up_x.0 up_y.0 (same x) (same y)

    tail : (q : ℕ) (b : Bool) → nat_eq q x ≡ b → is_place_among q xs ≡ is_place_among q ys
    tail q true e =
        let here : q ≡ x = eqb-true q x e in
        apart q x xs up_x.0 (omega (arith, here)) ∙ sym (apart q y ys up_y.0 (omega (arith, here, head)))
    tail q false e =
        sym (ap (λ b. b || is_place_among q xs) e) ∙ same q ∙ ap (λ b. b || is_place_among q ys) (ap (nat_eq q) (sym head) ∙ e)

-- one more key in an ordered list
pub among_inserted : (q : ℕ) (keys : List ℕ) (key : ℕ) → is_place_among q (insert_key nat_cmp keys key) ≡ (is_place_among q keys || nat_eq q key)
among_inserted q [] key = or_none (nat_eq q key)
among_inserted q (x ∷ keys) key = at (nat_lt key x) refl (key == x) refl (among_inserted q keys key)
  where
    swapped : (a b c : Bool) → (a || (b || c)) ≡ ((b || c) || a)
    swapped a b c = or_turned a (b || c)

    last : (a b c : Bool) → (a || (b || c)) ≡ ((a || b) || c)
    last true b c = refl
    last false b c = refl

    twice : (a b : Bool) → (a || b) ≡ ((a || b) || a)
    twice true b = refl
    twice false b = sym (or_none b)

    at : (b : Bool) → nat_lt key x ≡ b → (c : Bool) → (key == x) ≡ c → is_place_among q (insert_key nat_cmp keys key) ≡ (is_place_among q keys || nat_eq q key) → is_place_among q (match_ordering (cond b Less (cond c Equal Greater)) (key ∷ x ∷ keys) (x ∷ keys) (x ∷ insert_key nat_cmp keys key)) ≡ (is_place_among q (x ∷ keys) || nat_eq q key)
    at true e c f rest = swapped (nat_eq q key) (nat_eq q x) (is_place_among q keys)
    at false e true f rest = twice (nat_eq q x) (is_place_among q keys) ∙ ap (λ n. (nat_eq q x || is_place_among q keys) || nat_eq q n) (sym (eqb-true key x f))
    at false e false f rest = ap (λ b. nat_eq q x || b) rest ∙ last (nat_eq q x) (is_place_among q keys) (nat_eq q key)

-- Which places are among those of the tuples that pass.

passes : (List (List NdbPair) → Bool) → ℕ → Db → ℕ → Bool
passes test number [] q = false
passes test number (tuple ∷ db) q = (nat_eq q number && test tuple) || passes test (number + 1) db q

among_is : (test : List (List NdbPair) → Bool) (number : ℕ) (db : Db) (q : ℕ) → is_place_among q (tuple_places test number db) ≡ passes test number db q
unfolding passes
among_is test number [] q = refl
among_is test number (tuple ∷ db) q = at (test tuple) (among_is test (number + 1) db q)
  where
    and_true : (a : Bool) → (a && true) ≡ a
    and_true true = refl
    and_true false = refl

    and_false : (a : Bool) → (a && false) ≡ false
    and_false true = refl
    and_false false = refl

    at : (b : Bool) → is_place_among q (tuple_places test (number + 1) db) ≡ passes test (number + 1) db q → is_place_among q (cond b (number ∷ tuple_places test (number + 1) db) (tuple_places test (number + 1) db)) ≡ ((nat_eq q number && b) || passes test (number + 1) db q)
    at true rest = ap (λ b. nat_eq q number || b) rest ∙ ap (λ b. b || passes test (number + 1) db q) (sym (and_true (nat_eq q number)))
    at false rest = rest ∙ ap (λ b. b || passes test (number + 1) db q) (sym (and_false (nat_eq q number)))

any_nothing : {X : Type 0} (xs : List X) → list_any (λ (x : X). false) xs ≡ false
any_nothing [] = refl
any_nothing (x ∷ xs) = any_nothing xs

any_both : {X : Type 0} (p q : X → Bool) (xs : List X) → list_any (λ x. p x || q x) xs ≡ (list_any p xs || list_any q xs)
any_both p q [] = refl
any_both p q (x ∷ xs) = ap (λ b. (p x || q x) || b) (any_both p q xs) ∙ mixed (p x) (q x) (list_any p xs) (list_any q xs)
  where
    mixed : (a b c d : Bool) → ((a || b) || (c || d)) ≡ ((a || c) || (b || d))
    mixed true b c d = refl
    mixed false true true d = refl
    mixed false true false d = refl
    mixed false false c d = refl

any_and : {X : Type 0} (a : Bool) (p : X → Bool) (xs : List X) → list_any (λ x. a && p x) xs ≡ (a && list_any p xs)
any_and true p xs = refl
any_and false p xs = any_nothing xs

-- some first bits' places are those of the tuples with some of them
any_passes : {X : Type 0} (test : X → List (List NdbPair) → Bool) (xs : List X) (number : ℕ) (db : Db) (q : ℕ) → list_any (λ x. passes (test x) number db q) xs ≡ passes (λ tuple. list_any (λ x. test x tuple) xs) number db q
unfolding passes
any_passes test xs number [] q = any_nothing xs
any_passes test xs number (tuple ∷ db) q =
    any_both (λ x. nat_eq q number && test x tuple) (λ x. passes (test x) (number + 1) db q) xs
    ∙ ap (λ b. b || list_any (λ x. passes (test x) (number + 1) db q) xs) (any_and (nat_eq q number) (λ x. test x tuple) xs)
    ∙ ap (λ b. (nat_eq q number && list_any (λ x. test x tuple) xs) || b) (any_passes test xs (number + 1) db q)

same_passes : (p r : List (List NdbPair) → Bool) → ((tuple : List (List NdbPair)) → p tuple ≡ r tuple) → (number : ℕ) (db : Db) (q : ℕ) → passes p number db q ≡ passes r number db q
unfolding passes
same_passes p r same number [] q = refl
same_passes p r same number (tuple ∷ db) q =
    ap (λ b. (nat_eq q number && b) || passes p (number + 1) db q) (same tuple)
    ∙ ap (λ b. (nat_eq q number && r tuple) || b) (same_passes p r same (number + 1) db q)

-- a tuple has one of the first bits of the addresses where its network contains one
own_is : (bits : ℕ) (ips firsts : List ℕ) → ((first : ℕ) → list_any (nat_eq first) firsts ≡ list_any (λ ip. first_bits bits ip == first) ips) → (tuple : List (List NdbPair)) → list_any (λ first. has_prefix (prefix bits first) tuple) firsts ≡ is_own_network bits ips tuple
own_is bits ips firsts kept tuple = at (network_of tuple)
  where
    of_length : (network : Network) (b : Bool) → (network.bits == bits) ≡ b → list_any (λ first. b && (first_bits network.bits network.ip == first)) firsts ≡ (b && list_any (contains_address network) ips)
    of_length network true e =
        let same : network.bits ≡ bits = eqb-true network.bits bits e in
        ap (λ n. list_any (λ first. first_bits n network.ip == first) firsts) same
        ∙ kept (first_bits bits network.ip)
        ∙ same_any (λ ip. first_bits bits ip == first_bits bits network.ip) (contains_address network) ips
        (λ ip. turned (first_bits bits network.ip) (first_bits bits ip) (first_bits bits network.ip == first_bits bits ip) refl
        ∙ ap (λ n. first_bits n network.ip == first_bits n ip) (sym same))
    of_length network false e = any_nothing firsts

    at : (o : Option Network) → list_any (λ first. option_map_or (λ network. is_prefix network.bits network.ip (prefix bits first)) o false) firsts ≡ option_map_or (λ network. network.bits == bits && list_any (contains_address network) ips) o false
    at None = any_nothing firsts
    at (Some network) = of_length network (network.bits == bits) refl

-- the places of all networks with these first bits, in order
pub own_found : (bits : ℕ) (ips firsts keys : List ℕ) (networks : Kept) (db : Db) → ((first : ℕ) → list_any (nat_eq first) firsts ≡ list_any (λ ip. first_bits bits ip == first) ips) → ((place : ℕ) → is_place_among place keys ≡ list_any (λ first. is_place_among place (places_kept (prefix bits first) networks)) firsts) → IsStrictlySortedBy nat_cmp keys → HasPlaces db networks → keys ≡ own_places bits ips db
own_found bits ips firsts keys networks db kept among sorted has =
    same_lists keys (own_places bits ips db) (ascends keys sorted) (places_ascend 0 (is_own_network bits ips) db)
    (λ q.
    among q
    ∙ same_any (λ first. is_place_among q (places_kept (prefix bits first) networks)) (λ first. passes (has_prefix (prefix bits first)) 0 db q) firsts
    (λ first. ap (is_place_among q) (has (prefix bits first)) ∙ among_is (has_prefix (prefix bits first)) 0 db q)
    ∙ any_passes (λ first. has_prefix (prefix bits first)) firsts 0 db q
    ∙ same_passes (λ tuple. list_any (λ first. has_prefix (prefix bits first) tuple) firsts) (is_own_network bits ips) (own_is bits ips firsts kept) 0 db q
    ∙ sym (among_is (is_own_network bits ips) 0 db q))

-- no network has so many bits
pub none_own : (bits : ℕ) (ips : List ℕ) (number : ℕ) (db : Db) → list_any (has_length bits) db ≡ false → tuple_places (is_own_network bits ips) number db ≡ []
none_own bits ips number [] none = refl
none_own bits ips number (tuple ∷ db) none = at (network_of tuple) none (none_own bits ips (number + 1) db)
  where
    neither : (a b : Bool) → (a || b) ≡ false → (a ≡ false) × (b ≡ false)
    neither true b e = absurd cc
    neither false b e = (refl, e)

    at : (o : Option Network) → (option_map_or (λ network. network.bits == bits) o false || list_any (has_length bits) db) ≡ false → (list_any (has_length bits) db ≡ false → tuple_places (is_own_network bits ips) (number + 1) db ≡ []) → cond (option_map_or (λ network. network.bits == bits && list_any (contains_address network) ips) o false) (number ∷ tuple_places (is_own_network bits ips) (number + 1) db) (tuple_places (is_own_network bits ips) (number + 1) db) ≡ []
    at None e rest = rest e
    at (Some network) e rest =
        let parts = neither (network.bits == bits) (list_any (has_length bits) db) e in
        ap (λ b. cond (b && list_any (contains_address network) ips) (number ∷ tuple_places (is_own_network bits ips) (number + 1) db) (tuple_places (is_own_network bits ips) (number + 1) db)) parts.0
        ∙ rest parts.1
