-- How many tuples are near anna, and what a query finds, in a small network with systems more.
use Rattle.std.proofs.Common.{◌≡◌, ℕ, ◌+◌, ◌*◌, Bool, true, false, not, cond, ◌&&◌, ◌||◌, List, [], ◌∷◌, ◌++◌, length, refl, ap, ◌∙◌, append-nil, bytes_eq}
use Rattle.std.specs.Prelude.{filter, filter_map, flat_map, codes}
use Rattle.std.specs.List.{list_any, list_all}
use Rattle.std.specs.Fmt.{digits}
use Rattle.std.proofs.lemmas.List.Elements.{filter-append, filter_map-append}
use Rattle.std.proofs.lemmas.Bool.{and_parts, not-true}
use Rattle.net_base.specs.Ndb.{NdbPair}
use Rattle.net_base.specs.declared.address.Proto.TheVariants.{Il, Udp}
use Rattle.net_base.specs.Search.{tuple_has, tuples_with, values_in}
use Rattle.net_base.specs.Addresses.{read_address}
use Rattle.net_base.specs.Networks.{Network, network_of, own_networks, addresses_of, contains_address}
use Rattle.ndb_index.specs.Index.{near_count}
use Rattle.cs_resolver.specs.Probes.{most_probes}
use Rattle.cs_resolver.specs.Worked.{worked_db, system, systems, AreOthers}

abbrev Db : Type 0
Db = List (List (List NdbPair))

others : List ℕ → Bool
others name = not (bytes_eq name (codes "anna")) && not (bytes_eq name (codes "helix"))

-- no system more has a pair that none of them has
none_with : (attr value : List ℕ) (names : List (List ℕ)) → ((name : List ℕ) → others name ≡ true → tuple_has attr value (system name) ≡ false) → AreOthers names → tuples_with attr value (systems names) ≡ []
unfolding others
none_with attr value [] apart all = refl
none_with attr value (name ∷ names) apart all =
    let both = and_parts (not (bytes_eq name (codes "anna")) && not (bytes_eq name (codes "helix"))) (list_all (λ n. not (bytes_eq n (codes "anna")) && not (bytes_eq n (codes "helix"))) names) all in
    ap (λ b. cond b (system name ∷ tuples_with attr value (systems names)) (tuples_with attr value (systems names))) (apart name both.0)
    ∙ none_with attr value names apart both.1

with_more : (attr value : List ℕ) (names : List (List ℕ)) → ((name : List ℕ) → others name ≡ true → tuple_has attr value (system name) ≡ false) → AreOthers names → tuples_with attr value (worked_db ++ systems names) ≡ tuples_with attr value worked_db
with_more attr value names apart all =
    filter-append (tuple_has attr value) worked_db (systems names)
    ∙ ap (λ (back : Db). tuples_with attr value worked_db ++ back) (none_with attr value names apart all)
    ∙ append-nil (tuples_with attr value worked_db)

named : (b : Bool) → b ≡ false → ((true && b) || false) || false ≡ false
named b e = ap (λ c. ((true && c) || false) || false) e

not_anna : (name : List ℕ) → others name ≡ true → tuple_has (codes "sys") (codes "anna") (system name) ≡ false
unfolding others
not_anna name e = named (bytes_eq name (codes "anna")) (not-true (bytes_eq name (codes "anna")) (and_parts (not (bytes_eq name (codes "anna"))) (not (bytes_eq name (codes "helix"))) e).0)

not_helix : (name : List ℕ) → others name ≡ true → tuple_has (codes "sys") (codes "helix") (system name) ≡ false
unfolding others
not_helix name e = named (bytes_eq name (codes "helix")) (not-true (bytes_eq name (codes "helix")) (and_parts (not (bytes_eq name (codes "anna"))) (not (bytes_eq name (codes "helix"))) e).1)

no_networks : (names : List (List ℕ)) → filter_map network_of (systems names) ≡ []
no_networks [] = refl
no_networks (name ∷ names) = no_networks names

own_more : (names : List (List ℕ)) → AreOthers names → own_networks (codes "anna") (worked_db ++ systems names) ≡ own_networks (codes "anna") worked_db
own_more names all =
    ap (λ (tuples : Db). filter (λ network. list_any (contains_address network) (filter_map read_address (flat_map (values_in (codes "ip")) tuples))) (filter_map network_of (worked_db ++ systems names)))
    (with_more (codes "sys") (codes "anna") names not_anna all)
    ∙ ap (filter (λ network. list_any (contains_address network) (addresses_of (codes "anna") worked_db)))
    (filter_map-append network_of worked_db (systems names)
    ∙ ap (λ (back : List Network). filter_map network_of worked_db ++ back) (no_networks names)
    ∙ append-nil (filter_map network_of worked_db))

near_of : Db → List Network → ℕ
near_of mine own = length mine + length own

pub near_is_three : (names : List (List ℕ)) → AreOthers names → near_count (codes "anna") (worked_db ++ systems names) ≡ 3
unfolding near_of digits
near_is_three names all =
    ap (λ (mine : Db). near_of mine (own_networks (codes "anna") (worked_db ++ systems names))) (with_more (codes "sys") (codes "anna") names not_anna all)
    ∙ ap (near_of (tuples_with (codes "sys") (codes "anna") worked_db)) (own_more names all)

looks_of : ℕ → Db → Db → Db → ℕ
looks_of near helix il udp = 2 * near + ((0 + length helix) + ((0 + length il) + length udp))

pub query_is_eight : (names : List (List ℕ)) → AreOthers names → most_probes (worked_db ++ systems names) (codes "anna") (Il ∷ Udp ∷ []) (codes "net!helix!9fs") ≡ 8
unfolding looks_of digits
query_is_eight names all =
    let db : Db = worked_db ++ systems names in
    ap (λ near. looks_of near (tuples_with (codes "sys") (codes "helix") db) (tuples_with (codes "il") (codes "9fs") db) (tuples_with (codes "udp") (codes "9fs") db)) (near_is_three names all)
    ∙ ap (λ (helix : Db). looks_of 3 helix (tuples_with (codes "il") (codes "9fs") db) (tuples_with (codes "udp") (codes "9fs") db)) (with_more (codes "sys") (codes "helix") names not_helix all)
    ∙ ap (λ (il : Db). looks_of 3 (tuples_with (codes "sys") (codes "helix") worked_db) il (tuples_with (codes "udp") (codes "9fs") db)) (with_more (codes "il") (codes "9fs") names (λ name e. refl) all)
    ∙ ap (λ (udp : Db). looks_of 3 (tuples_with (codes "sys") (codes "helix") worked_db) (tuples_with (codes "il") (codes "9fs") worked_db) udp) (with_more (codes "udp") (codes "9fs") names (λ name e. refl) all)
