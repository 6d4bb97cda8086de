-- A database in which the attribute `ipnet` stands nowhere has no network.
use Rattle.std.proofs.Common.{◌≡◌, ℕ, ◌+◌, ◌==◌, Bool, false, cond, List, [], ◌∷◌, None, refl, sym, ap, ◌∙◌}
use Rattle.std.specs.Prelude.{codes, filter_map, flat_map, option_map}
use Rattle.std.specs.Option.{option_map_or}
use Rattle.std.specs.List.{list_any}
use Rattle.std.proofs.lemmas.List.Folds.{list_any-append}
use Rattle.std.proofs.lemmas.Bool.{or_parts}
use Rattle.net_base.specs.Ndb.{NdbPair}
use Rattle.net_base.specs.Addresses.{read_address}
use Rattle.net_base.specs.Search.{has_attr, values_in}
use Rattle.net_base.specs.Networks.{Network, network_of, tuple_names, first_of, bits_of}
use Rattle.net_base.specs.Store.{all_pairs}
use Rattle.net_base.proofs.Shared.{neither}
use Rattle.ndb_search.specs.declared.prefixes.Prefix.{Prefix}
use Rattle.ndb_search.specs.Prefixes.{is_prefix}
use Rattle.ndb_search.specs.Places.{tuple_places}
use Rattle.ndb_index.specs.Nets.{has_prefix, has_length}
use Rattle.ndb_index.proofs.Own.{Db}

IsUnnamed : List NdbPair → Type 0
IsUnnamed pairs = list_any (has_attr (codes "ipnet")) pairs ≡ false

lines_unnamed : (tuple : List (List NdbPair)) → IsUnnamed (flat_map (λ line. line) tuple) → tuple_names (codes "ipnet") tuple ≡ false
unfolding IsUnnamed
lines_unnamed [] none = refl
lines_unnamed (line ∷ tuple) none =
    let parts = or_parts (list_any (has_attr (codes "ipnet")) line) (list_any (has_attr (codes "ipnet")) (flat_map (λ (l : List NdbPair). l) tuple))
    (sym (list_any-append (has_attr (codes "ipnet")) line (flat_map (λ (l : List NdbPair). l) tuple)) ∙ none) in
    neither (list_any (has_attr (codes "ipnet")) line) (tuple_names (codes "ipnet") tuple) parts.0 (lines_unnamed tuple parts.1)

abbrev network_at : List (List NdbPair) → ℕ → Network
network_at tuple ip = record { ip = ip; bits = bits_of ip tuple; tuple = tuple }

no_network : (tuple : List (List NdbPair)) → IsUnnamed (flat_map (λ line. line) tuple) → network_of tuple ≡ None
no_network tuple none =
    ap (λ (b : Bool). cond b (option_map (network_at tuple) (first_of (filter_map read_address (values_in (codes "ip") tuple)))) None) (lines_unnamed tuple none)

tuples_unnamed : (tuple : List (List NdbPair)) (db : Db) → IsUnnamed (all_pairs (tuple ∷ db)) → (network_of tuple ≡ None) × IsUnnamed (all_pairs db)
unfolding IsUnnamed
tuples_unnamed tuple db none =
    let own : List NdbPair = flat_map (λ (line : List NdbPair). line) tuple in
    let parts = or_parts (list_any (has_attr (codes "ipnet")) own) (list_any (has_attr (codes "ipnet")) (all_pairs db))
    (sym (list_any-append (has_attr (codes "ipnet")) own (all_pairs db)) ∙ none) in
    (no_network tuple parts.0, parts.1)

placed : (asked : Prefix) (place : ℕ) (db : Db) → IsUnnamed (all_pairs db) → tuple_places (has_prefix asked) place db ≡ []
placed asked place [] none = refl
placed asked place (tuple ∷ db) none =
    let parts = tuples_unnamed tuple db none in
    let apart : has_prefix asked tuple ≡ false = ap (λ o. option_map_or (λ (network : Network). is_prefix network.bits network.ip asked) o false) parts.0 in
    ap (λ (b : Bool). cond b (place ∷ tuple_places (has_prefix asked) (place + 1) db) (tuple_places (has_prefix asked) (place + 1) db)) apart
    ∙ placed asked (place + 1) db parts.1

pub none_placed : (asked : Prefix) (place : ℕ) (db : Db) → list_any (has_attr (codes "ipnet")) (all_pairs db) ≡ false → tuple_places (has_prefix asked) place db ≡ []
unfolding IsUnnamed
none_placed asked place db none = placed asked place db none

long : (bits : ℕ) (db : Db) → IsUnnamed (all_pairs db) → list_any (has_length bits) db ≡ false
long bits [] none = refl
long bits (tuple ∷ db) none =
    let parts = tuples_unnamed tuple db none in
    let apart : has_length bits tuple ≡ false = ap (λ o. option_map_or (λ (network : Network). network.bits == bits) o false) parts.0 in
    neither (has_length bits tuple) (list_any (has_length bits) db) apart (long bits db parts.1)

pub none_long : (bits : ℕ) (db : Db) → list_any (has_attr (codes "ipnet")) (all_pairs db) ≡ false → list_any (has_length bits) db ≡ false
unfolding IsUnnamed
none_long bits db none = long bits db none
