-- A system's addresses and its own networks, a tuple at a time.
use Rattle.std.proofs.Common.{◌≡◌, ◌≢◌, ℕ, ◌+◌, ◌<◌, ◌==◌, ◌||◌, ◌&&◌, nat_eq, arith, Bool, true, false, cond, List, [], ◌∷◌, ◌++◌, length, get_or, take, map, refl, sym, ap, ◌∙◌, Option, Some, None, append-nil}
use Rattle.std.specs.Prelude.{filter, filter_map, flat_map, option_map, codes}
use Rattle.std.specs.List.{list_any, cons_option}
use Rattle.std.proofs.lemmas.Bool.Decides.{nat_tests}
use Rattle.std.proofs.lemmas.List.Elements.{filter-append, filter_map-append}
use Rattle.std.proofs.lemmas.List.Concat.{flat_map-append}
use Rattle.std.proofs.lemmas.List.{map-append}
use Rattle.net_base.specs.Ndb.{NdbPair}
use Rattle.net_base.specs.Networks.{Network, network_of, addresses_of, contains_address}
use Rattle.net_base.specs.Addresses.{read_address}
use Rattle.net_base.specs.Search.{tuple_has, values_in}
use Rattle.ndb_search.specs.declared.network.Network.{Network as Kept}
use Rattle.ndb_search.specs.declared.tuple_numbers.Kind.TheVariants.{Address}
use Rattle.ndb_search.specs.Numbers.{numbers_in}
use Rattle.ndb_search.specs.Prefixes.{network_seen, first_bits}
use Rattle.ndb_search.specs.Own.{own_at}
use Rattle.ndb_search.proofs.Lists.{Joins, joins_more}
use Rattle.ndb_search.proofs.Firsts.{contained}

addresses_joins : (me : List ℕ) → Joins (addresses_of me)
addresses_joins me = record {
  none = refl;
  both = λ xs ys. ap (λ found. filter_map read_address (flat_map (values_in (codes "ip")) found)) (filter-append (tuple_has (codes "sys") me) xs ys)
      ∙ ap (filter_map read_address) (flat_map-append (values_in (codes "ip")) (filter (tuple_has (codes "sys") me) xs) (filter (tuple_has (codes "sys") me) ys))
      ∙ filter_map-append read_address (flat_map (values_in (codes "ip")) (filter (tuple_has (codes "sys") me) xs)) (flat_map (values_in (codes "ip")) (filter (tuple_has (codes "sys") me) ys));
}

addresses_at : List (List NdbPair) → Bool → List ℕ
addresses_at tuple holds = filter_map read_address (flat_map (values_in (codes "ip")) (cond holds (tuple ∷ []) []))

-- one more tuple, of the system and of another
pub addresses_more : (me : List ℕ) (db : List (List (List NdbPair))) (i : ℕ) (tuple : List (List NdbPair)) → i < length db → tuple ≡ get_or db i tuple → tuple_has (codes "sys") me tuple ≡ true → addresses_of me (take (i + 1) db) ≡ addresses_of me (take i db) ++ numbers_in Address tuple
unfolding addresses_at
addresses_more me db i tuple within here named =
    joins_more (addresses_of me) (addresses_joins me) db i tuple within here
    ∙ ap (λ piece. addresses_of me (take i db) ++ piece) (ap (addresses_at tuple) named ∙ ap (filter_map read_address) (append-nil (values_in (codes "ip") tuple)))

pub addresses_less : (me : List ℕ) (db : List (List (List NdbPair))) (i : ℕ) (tuple : List (List NdbPair)) → i < length db → tuple ≡ get_or db i tuple → tuple_has (codes "sys") me tuple ≡ false → addresses_of me (take (i + 1) db) ≡ addresses_of me (take i db)
unfolding addresses_at
addresses_less me db i tuple within here named =
    joins_more (addresses_of me) (addresses_joins me) db i tuple within here
    ∙ ap (λ piece. addresses_of me (take i db) ++ piece) (ap (addresses_at tuple) named)
    ∙ append-nil (addresses_of me (take i db))

network_at : Option Network → List Network
network_at network = cons_option network []

-- one more tuple, which describes a network, and one which describes none
pub network_more : (db : List (List (List NdbPair))) (i : ℕ) (tuple : List (List NdbPair)) (found : Option Kept) (network : Kept) (networks after : List Kept) → i < length db → tuple ≡ get_or db i tuple → option_map network_seen found ≡ network_of tuple → found ≡ Some network → map network_seen networks ≡ filter_map network_of (take i db) → after ≡ networks ++ network ∷ [] → map network_seen after ≡ filter_map network_of (take (i + 1) db)
unfolding network_at
network_more db i tuple found network networks after within here seen is so_far pushed =
    ap (map network_seen) pushed ∙ map-append network_seen networks (network ∷ [])
    ∙ ap (λ front. front ++ network_seen network ∷ []) so_far
    ∙ sym (joins_more (filter_map network_of) (record { none = refl; both = filter_map-append network_of }) db i tuple within here
    ∙ ap (λ piece. filter_map network_of (take i db) ++ piece) (ap network_at (sym seen ∙ ap (option_map network_seen) is)))

pub network_less : (db : List (List (List NdbPair))) (i : ℕ) (tuple : List (List NdbPair)) (found : Option Kept) (networks : List Kept) → i < length db → tuple ≡ get_or db i tuple → option_map network_seen found ≡ network_of tuple → found ≡ None → map network_seen networks ≡ filter_map network_of (take i db) → map network_seen networks ≡ filter_map network_of (take (i + 1) db)
unfolding network_at
network_less db i tuple found networks within here seen is so_far =
    so_far
    ∙ sym (joins_more (filter_map network_of) (record { none = refl; both = filter_map-append network_of }) db i tuple within here
    ∙ ap (λ piece. filter_map network_of (take i db) ++ piece) (ap network_at (sym seen ∙ ap (option_map network_seen) is))
    ∙ append-nil (filter_map network_of (take i db)))

-- The networks of one length.

own_joins : (bits : ℕ) (ips : List ℕ) → Joins (own_at bits ips)
own_joins bits ips = record {
  none = refl;
  both = λ xs ys. ap (filter (λ network. network.bits == bits)) (filter-append (λ network. list_any (contains_address network) ips) xs ys)
      ∙ filter-append (λ network. network.bits == bits) (filter (λ network. list_any (contains_address network) ips) xs) (filter (λ network. list_any (contains_address network) ips) ys);
}

seen_joins : (bits : ℕ) (ips : List ℕ) → Joins (λ (networks : List Kept). own_at bits ips (map network_seen networks))
seen_joins bits ips = record {
  none = refl;
  both = λ xs ys. ap (own_at bits ips) (map-append network_seen xs ys) ∙ (own_joins bits ips).both (map network_seen xs) (map network_seen ys);
}

one_at : (bits : ℕ) (ips : List ℕ) (network : Network) (own same : Bool) → list_any (contains_address network) ips ≡ own → (network.bits == bits) ≡ same → own_at bits ips (network ∷ []) ≡ cond (own && same) (network ∷ []) []
one_at bits ips network own same e f = ap (λ b. filter (λ n. n.bits == bits) (cond b (network ∷ []) [])) e ∙ at own
  where
    at : (b : Bool) → filter (λ n. n.bits == bits) (cond b (network ∷ []) []) ≡ cond (b && same) (network ∷ []) []
    at true = ap (λ b. cond b (network ∷ []) []) f
    at false = refl

own_next : (bits : ℕ) (ips : List ℕ) (networks : List Kept) (i : ℕ) (network : Kept) (own same : Bool) → i < length networks → network ≡ get_or networks i network → list_any (contains_address (network_seen network)) ips ≡ own → (network.bits == bits) ≡ same → own_at bits ips (map network_seen (take (i + 1) networks)) ≡ own_at bits ips (map network_seen (take i networks)) ++ cond (own && same) (network_seen network ∷ []) []
own_next bits ips networks i network own same within here e f =
    joins_more (λ (all : List Kept). own_at bits ips (map network_seen all)) (seen_joins bits ips) networks i network within here
    ∙ ap (λ piece. own_at bits ips (map network_seen (take i networks)) ++ piece) (one_at bits ips (network_seen network) own same e f)

-- one more network: of another length, of the system's own, and of others
pub own_other : (bits : ℕ) (ips : List ℕ) (networks : List Kept) (i : ℕ) (network : Kept) → i < length networks → network ≡ get_or networks i network → network.bits ≢ bits → own_at bits ips (map network_seen (take (i + 1) networks)) ≡ own_at bits ips (map network_seen (take i networks))
own_other bits ips networks i network within here apart =
    let none : (list_any (contains_address (network_seen network)) ips && false) ≡ false = never (list_any (contains_address (network_seen network)) ips) in
    own_next bits ips networks i network (list_any (contains_address (network_seen network)) ips) false within here refl (grind (arith, nat_tests))
    ∙ ap (λ b. own_at bits ips (map network_seen (take i networks)) ++ cond b (network_seen network ∷ []) []) none
    ∙ append-nil (own_at bits ips (map network_seen (take i networks)))
  where
    never : (b : Bool) → (b && false) ≡ false
    never true = refl
    never false = refl

pub own_more : (bits : ℕ) (ips firsts : List ℕ) (networks : List Kept) (i : ℕ) (network : Kept) → i < length networks → network ≡ get_or networks i network → ((first : ℕ) → list_any (nat_eq first) firsts ≡ list_any (λ ip. first_bits bits ip == first) ips) → network.bits ≡ bits → list_any (nat_eq (first_bits bits network.ip)) firsts ≡ true → own_at bits ips (map network_seen (take (i + 1) networks)) ≡ own_at bits ips (map network_seen (take i networks)) ++ network_seen network ∷ []
own_more bits ips firsts networks i network within here kept same found =
    own_next bits ips networks i network true true within here (contained bits ips firsts network true kept same found) (grind (arith, nat_tests))

pub own_less : (bits : ℕ) (ips firsts : List ℕ) (networks : List Kept) (i : ℕ) (network : Kept) → i < length networks → network ≡ get_or networks i network → ((first : ℕ) → list_any (nat_eq first) firsts ≡ list_any (λ ip. first_bits bits ip == first) ips) → network.bits ≡ bits → list_any (nat_eq (first_bits bits network.ip)) firsts ≡ false → own_at bits ips (map network_seen (take (i + 1) networks)) ≡ own_at bits ips (map network_seen (take i networks))
own_less bits ips firsts networks i network within here kept same found =
    own_next bits ips networks i network false true within here (contained bits ips firsts network false kept same found) (grind (arith, nat_tests))
    ∙ append-nil (own_at bits ips (map network_seen (take i networks)))

-- no network has so many bits
pub none_at : (bits : ℕ) (ips : List ℕ) (networks : List Kept) → list_any (λ network. network.bits == bits) networks ≡ false → own_at bits ips (map network_seen networks) ≡ []
none_at bits ips [] e = refl
none_at bits ips (network ∷ networks) e =
    let parts = neither (network.bits == bits) (list_any (λ n. n.bits == bits) networks) e in
    (own_joins bits ips).both (network_seen network ∷ []) (map network_seen networks)
    ∙ ap (λ front. front ++ own_at bits ips (map network_seen networks))
    (one_at bits ips (network_seen network) (list_any (contains_address (network_seen network)) ips) false refl parts.0
    ∙ ap (λ b. cond b (network_seen network ∷ []) []) (never (list_any (contains_address (network_seen network)) ips)))
    ∙ none_at bits ips networks parts.1
  where
    neither : (a b : Bool) → (a || b) ≡ false → (a ≡ false) × (b ≡ false)
    neither true b f = absurd cc
    neither false b f = (refl, f)

    never : (b : Bool) → (b && false) ≡ false
    never true = refl
    never false = refl
