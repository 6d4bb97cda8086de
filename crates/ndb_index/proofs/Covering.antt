-- The addresses that a system's own networks cover, found by first bits.
use Rattle.std.proofs.Common.{◌≡◌, ℕ, ◌+◌, ◌<◌, ◌==◌, ◌||◌, ◌&&◌, nat_eq, Bool, true, false, cond, List, [], ◌∷◌, length, get_or, take, refl, sym, ap, ◌∙◌, Option, Some, None, arith}
use Rattle.std.specs.Prelude.{filter, filter_map}
use Rattle.std.specs.Option.{option_map_or}
use Rattle.std.specs.List.{list_any, cons_option}
use Rattle.std.proofs.lemmas.List.Folds.{list_any_more, Any-from_list_any, list_any_at}
use Rattle.std.proofs.lemmas.Bool.Decides.{nat_tests}
use Rattle.std.proofs.lemmas.Bool.{and_parts, and_from, eqb-true}
use Rattle.net_base.specs.Ndb.{NdbPair}
use Rattle.net_base.specs.Networks.{Network, network_of, contains_address, is_on, is_filled}
use Rattle.ndb_search.specs.Prefixes.{first_bits, prefix_of, is_prefix, is_on_prefix}
use Rattle.ndb_search.specs.Places.{tuple_places}
use Rattle.ndb_search.proofs.Shared.{same_truth, any_wider, any_gives}
use Rattle.ndb_index.specs.Nets.{has_prefix, has_length, places_kept, HasPlaces, HasAllLengths, is_covered}
use Rattle.ndb_index.proofs.Own.{Db, Kept}
use Rattle.net_base.proofs.Shared.{number_itself}

or_assoc : (a b c : Bool) → ((a || b) || c) ≡ (a || (b || c))
or_assoc true b c = refl
or_assoc false b c = refl

-- one more element for a test, beside what was true before
pub or_more : {X : Type 0} (test : X → Bool) (xs : List X) (i : ℕ) (d : X) (before now after : Bool) → i < length xs → now ≡ (before || list_any test (take i xs)) → after ≡ (now || test (get_or xs i d)) → after ≡ (before || list_any test (take (i + 1) xs))
or_more test xs i d before now after within so_far put =
    put
    ∙ ap (λ b. b || test (get_or xs i d)) so_far
    ∙ or_assoc before (list_any test (take i xs)) (test (get_or xs i d))
    ∙ ap (λ b. before || b) (sym (list_any_more test xs i d within))

-- some tuple has the prefix where places are kept for it
filled_is : (test : List (List NdbPair) → Bool) (number : ℕ) (db : Db) → is_filled (tuple_places test number db) ≡ list_any test db
filled_is test number [] = refl
filled_is test number (tuple ∷ db) = at (test tuple) (filled_is test (number + 1) db)
  where
    at : (b : Bool) → is_filled (tuple_places test (number + 1) db) ≡ list_any test db → is_filled (cond b (number ∷ tuple_places test (number + 1) db) (tuple_places test (number + 1) db)) ≡ (b || list_any test db)
    at true rest = filled number (tuple_places test (number + 1) db)
      where
        filled : (n : ℕ) (ns : List ℕ) → is_filled (n ∷ ns) ≡ true
        filled n ns = grind (arith, nat_tests)
    at false rest = rest

-- the tuple's network contains one of the addresses, and this one
on_own : List ℕ → ℕ → List (List NdbPair) → Bool
on_own ips ip tuple =
    option_map_or (λ network. list_any (contains_address network) ips && contains_address network ip) (network_of tuple) false

on_is : (ips : List ℕ) (ip : ℕ) (db : Db) → is_on (filter (λ network. list_any (contains_address network) ips) (filter_map network_of db)) ip ≡ list_any (on_own ips ip) db
unfolding on_own
on_is ips ip [] = refl
on_is ips ip (tuple ∷ db) = at (network_of tuple) (on_is ips ip db)
  where
    own : List Network → List Network
    own networks = filter (λ network. list_any (contains_address network) ips) networks

    of_own : (network : Network) (b : Bool) → is_on (cond b (network ∷ filter (λ n. list_any (contains_address n) ips) (filter_map network_of db)) (filter (λ n. list_any (contains_address n) ips) (filter_map network_of db))) ip ≡ ((b && contains_address network ip) || is_on (filter (λ n. list_any (contains_address n) ips) (filter_map network_of db)) ip)
    of_own network true = refl
    of_own network false = refl

    at : (o : Option Network) → is_on (filter (λ network. list_any (contains_address network) ips) (filter_map network_of db)) ip ≡ list_any (on_own ips ip) db → is_on (filter (λ network. list_any (contains_address network) ips) (cons_option o (filter_map network_of db))) ip ≡ (option_map_or (λ network. list_any (contains_address network) ips && contains_address network ip) o false || list_any (on_own ips ip) db)
    at None rest = rest
    at (Some network) rest =
        of_own network (list_any (contains_address network) ips)
        ∙ ap (λ b. (list_any (contains_address network) ips && contains_address network ip) || b) rest

-- the first bits of a network that are those of an address
shared : (network : Network) (bits own : ℕ) → (network.bits == bits && first_bits network.bits network.ip == first_bits bits own) ≡ true → (network.bits ≡ bits) × (first_bits bits network.ip ≡ first_bits bits own)
shared network bits own e =
    let parts = and_parts (network.bits == bits) (first_bits network.bits network.ip == first_bits bits own) e in
    let same : network.bits ≡ bits = eqb-true network.bits bits parts.0 in
    (same, ap (λ n. first_bits n network.ip) (sym same) ∙ eqb-true (first_bits network.bits network.ip) (first_bits bits own) parts.1)

contains : (network : Network) (bits ip : ℕ) → network.bits ≡ bits → first_bits bits network.ip ≡ first_bits bits ip → contains_address network ip ≡ true
contains network bits ip same first =
    ap (λ n. first_bits n network.ip == first_bits n ip) same ∙ ap (λ n. n == first_bits bits ip) first ∙ number_itself (first_bits bits ip)

module _ (networks : Kept) (lengths ips : List ℕ) (db : Db) (has : HasPlaces db networks) (all : HasAllLengths lengths db) (ip : ℕ) where
  kept_is : (bits own : ℕ) → is_filled (places_kept (prefix_of bits own) networks) ≡ list_any (has_prefix (prefix_of bits own)) db
  kept_is bits own = ap is_filled (has (prefix_of bits own)) ∙ filled_is (has_prefix (prefix_of bits own)) 0 db

  -- a tuple whose network has the prefix that both addresses have
  own_on : (bits own i : ℕ) → i < length ips → get_or ips i own ≡ own → is_on_prefix ip (prefix_of bits own) ≡ true → (tuple : List (List NdbPair)) → has_prefix (prefix_of bits own) tuple ≡ true → on_own ips ip tuple ≡ true
  unfolding on_own
  own_on bits own i within here on tuple e = at (network_of tuple) e
    where
      same : first_bits bits ip ≡ first_bits bits own
      same = eqb-true (first_bits bits ip) (first_bits bits own) (and_parts (bits == bits) (first_bits bits ip == first_bits bits own) on).1

      at : (o : Option Network) → option_map_or (λ network. is_prefix network.bits network.ip (prefix_of bits own)) o false ≡ true → option_map_or (λ network. list_any (contains_address network) ips && contains_address network ip) o false ≡ true
      at None f = absurd cc
      at (Some network) f =
          let first = shared network bits own f in
          and_from (list_any (contains_address network) ips) (contains_address network ip)
          (list_any_at (contains_address network) ips i own within (ap (contains_address network) here ∙ contains network bits own first.0 first.1))
          (contains network bits ip first.0 (first.1 ∙ sym same))

  found : list_any (λ bits. is_covered networks bits ips ip) lengths ≡ true → list_any (on_own ips ip) db ≡ true
  found = any_gives (λ bits. is_covered networks bits ips ip) (list_any (on_own ips ip) db) lengths at
    where
      at : (bits : ℕ) → is_covered networks bits ips ip ≡ true → list_any (on_own ips ip) db ≡ true
      at bits e =
          let some = Any-from_list_any (λ own. is_filled (places_kept (prefix_of bits own) networks) && is_on_prefix ip (prefix_of bits own)) ips e in
          let parts = and_parts (is_filled (places_kept (prefix_of bits some.1) networks)) (is_on_prefix ip (prefix_of bits some.1)) some.4 in
          any_wider (on_own ips ip) (has_prefix (prefix_of bits some.1)) db (own_on bits some.1 some.0 some.2 some.3 parts.1) (sym (kept_is bits some.1) ∙ parts.0)

  of_network : (tuple : List (List NdbPair)) (i : ℕ) → i < length db → get_or db i tuple ≡ tuple → (network : Network) → network_of tuple ≡ Some network → list_any (contains_address network) ips ≡ true → contains_address network ip ≡ true → list_any (λ bits. is_covered networks bits ips ip) lengths ≡ true
  of_network tuple i within here network is own on =
      any_wider (λ bits. is_covered networks bits ips ip) (nat_eq network.bits) lengths
      (λ n k. ap (λ bits. is_covered networks bits ips ip) (sym (eqb-true network.bits n k)) ∙ any_wider (λ o. is_filled (places_kept (prefix_of network.bits o) networks) && is_on_prefix ip (prefix_of network.bits o)) (contains_address network) ips at own)
      (all network.bits ∙ list_any_at (has_length network.bits) db i tuple within (ap (has_length network.bits) here ∙ ap (λ o. option_map_or (λ (n : Network). n.bits == network.bits) o false) is ∙ number_itself network.bits))
    where
      at : (o : ℕ) → contains_address network o ≡ true → (is_filled (places_kept (prefix_of network.bits o) networks) && is_on_prefix ip (prefix_of network.bits o)) ≡ true
      at o k =
          let here_is : has_prefix (prefix_of network.bits o) tuple ≡ true =
          ap (λ n. option_map_or (λ (network' : Network). is_prefix network'.bits network'.ip (prefix_of network.bits o)) n false) is ∙ and_from _ _ (number_itself network.bits) k in
          let same : first_bits network.bits ip ≡ first_bits network.bits o =
          sym (eqb-true (first_bits network.bits network.ip) (first_bits network.bits ip) on) ∙ eqb-true (first_bits network.bits network.ip) (first_bits network.bits o) k in
          and_from (is_filled (places_kept (prefix_of network.bits o) networks)) (is_on_prefix ip (prefix_of network.bits o))
          (kept_is network.bits o ∙ list_any_at (has_prefix (prefix_of network.bits o)) db i tuple within (ap (has_prefix (prefix_of network.bits o)) here ∙ here_is))
          (and_from _ _ (number_itself network.bits) (ap (λ n. n == first_bits network.bits o) same ∙ number_itself (first_bits network.bits o)))

  kept : list_any (on_own ips ip) db ≡ true → list_any (λ bits. is_covered networks bits ips ip) lengths ≡ true
  unfolding on_own
  kept e =
      let some = Any-from_list_any (on_own ips ip) db e in at some.1 some.0 some.2 some.3 (network_of some.1) refl some.4
    where
      at : (tuple : List (List NdbPair)) (i : ℕ) → i < length db → get_or db i tuple ≡ tuple → (o : Option Network) → network_of tuple ≡ o → option_map_or (λ network. list_any (contains_address network) ips && contains_address network ip) o false ≡ true → list_any (λ bits. is_covered networks bits ips ip) lengths ≡ true
      at tuple i within here None is f = absurd cc
      at tuple i within here (Some network) is f =
          let parts = and_parts (list_any (contains_address network) ips) (contains_address network ip) f in
          of_network tuple i within here network is parts.0 parts.1

  -- an address is covered where it is on one of the networks that contain one of the others
  pub covered_is : list_any (λ bits. is_covered networks bits ips ip) lengths ≡ is_on (filter (λ network. list_any (contains_address network) ips) (filter_map network_of db)) ip
  covered_is = same_truth _ _ found kept ∙ sym (on_is ips ip db)
