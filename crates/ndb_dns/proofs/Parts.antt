-- The parts of an answer, an element at a time.
use Rattle.std.proofs.Common.{◌≡◌, ℕ, suc, ◌+◌, ◌<◌, ◌==◌, nat_eq, Bool, true, false, cond, List, [], ◌∷◌, ◌++◌, length, get_or, slice_get, take, map, Vec, vec_items, Option, Some, None, refl, sym, ap, ◌∙◌, arith, append-nil, append_assoc}
use Rattle.std.specs.Prelude.{filter_map, flat_map, option_map}
use Rattle.std.specs.List.{list_all, list_any, cons_option}
use Rattle.std.proofs.lemmas.Bool.{ne_eqb}
use Rattle.std.proofs.lemmas.List.{take_more, map-append, get_or-map}
use Rattle.std.proofs.lemmas.List.Elements.{filter_map-append}
use Rattle.std.proofs.lemmas.List.Concat.{flat_map-append}
use Rattle.std.proofs.lemmas.Option.{slice_get-map}
use Rattle.net_base.specs.Ndb.{NdbPair}
use Rattle.net_base.specs.Addresses.{read_address}
use Rattle.net_base.specs.Cs.{once_each}
use Rattle.net_base.specs.NdbText.{is_empty}
use Rattle.net_base.specs.Networks.{first_of}
use Rattle.net_base.specs.Search.{all_beside, beside, tuples_with}
use Rattle.ndb_reader.specs.Names.{names_seen, with_one_name, with_names}
use Rattle.ndb_reader.proofs.Shared.{names_append}
use Rattle.net_base.specs.declared.ndb.spot.Spot.{Spot}
use Rattle.ndb_index.specs.Index.{found}
use Rattle.ndb_index.specs.Kept.{spots_with}
use Rattle.ndb_index.specs.Near.{spot_tuples}
use Rattle.ndb_index.proofs.Shared.{Db, spots_count, spots_found}
use Rattle.net_base.specs.DomainAnswers.{ZoneKey, is_unknown, naming_record, records_beside, records_found}
use Rattle.net_base.specs.DomainNames.{name_in}
use Rattle.ndb_dns.proofs.Lowering.{is_valid, valid_at}
use Rattle.ndb_search.proofs.Shared.{among, once_push, same_any, turned}

-- ---- values at spots

at_spots : (attr value other : List ℕ) (db : Db) → List Spot → List (List ℕ)
at_spots attr value other db spots = flat_map (beside attr value other) (spot_tuples db spots)

spots_join : (attr value other : List ℕ) (db : Db) (spots more : List Spot) → at_spots attr value other db (spots ++ more) ≡ at_spots attr value other db spots ++ at_spots attr value other db more
unfolding at_spots
spots_join attr value other db spots more =
    ap (flat_map (beside attr value other)) (map-append (λ (spot : Spot). get_or db spot.place []) spots more)
    ∙ flat_map-append (beside attr value other) (spot_tuples db spots) (spot_tuples db more)

pub values_more : (attr value other : List ℕ) (db : Db) (spots : List Spot) (i : ℕ) (d : Spot) (tuple : List (List NdbPair)) (front old now : List (List ℕ)) → i < length spots → tuple ≡ get_or db (get_or spots i d).place [] → old ≡ front ++ flat_map (beside attr value other) (spot_tuples db (take i spots)) → now ≡ old ++ beside attr value other tuple → now ≡ front ++ flat_map (beside attr value other) (spot_tuples db (take (i + 1) spots))
unfolding at_spots
values_more attr value other db spots i d tuple front old now within is so_far put =
    put
    ∙ ap (λ (those : List (List ℕ)). those ++ beside attr value other tuple) so_far
    ∙ append_assoc front (flat_map (beside attr value other) (spot_tuples db (take i spots))) (beside attr value other tuple)
    ∙ ap (λ (more : List (List ℕ)). front ++ more)
    (ap (λ (t : List (List NdbPair)). flat_map (beside attr value other) (spot_tuples db (take i spots)) ++ beside attr value other t) is
    ∙ ap (λ (more : List (List ℕ)). flat_map (beside attr value other) (spot_tuples db (take i spots)) ++ more) (sym (append-nil (beside attr value other (get_or db (get_or spots i d).place []))))
    ∙ sym (spots_join attr value other db (take i spots) (get_or spots i d ∷ []))
    ∙ ap (λ (those : List Spot). flat_map (beside attr value other) (spot_tuples db those)) (sym (take_more spots i d within)))

-- the values at all spots are those in all tuples with the pair
pub values_are : (attr value other : List ℕ) (db : Db) (spots : List Spot) → spots ≡ spots_with attr value db → flat_map (beside attr value other) (spot_tuples db spots) ≡ all_beside attr value other db
values_are attr value other db spots are =
    ap (λ (those : List Spot). flat_map (beside attr value other) (spot_tuples db those)) are
    ∙ ap (flat_map (beside attr value other)) (spots_found attr value db)

-- ---- addresses

address_step : (values : List (List ℕ)) (i : ℕ) (value : List ℕ) → i < length values → value ≡ get_or values i value → filter_map read_address (take (i + 1) values) ≡ filter_map read_address (take i values) ++ cons_option (read_address value) []
address_step values i value within here =
    ap (filter_map read_address) (take_more values i value within ∙ ap (λ (v : List ℕ). take i values ++ v ∷ []) (sym here))
    ∙ filter_map-append read_address (take i values) (value ∷ [])

pub address_less : (values : List (List ℕ)) (i : ℕ) (value : List ℕ) (keys : List ℕ) → i < length values → value ≡ get_or values i value → read_address value ≡ None → keys ≡ once_each (filter_map read_address (take i values)) → keys ≡ once_each (filter_map read_address (take (i + 1) values))
address_less values i value keys within here none kept =
    kept
    ∙ ap once_each
    (sym (append-nil (filter_map read_address (take i values)))
    ∙ ap (λ (o : Option ℕ). filter_map read_address (take i values) ++ cons_option o []) (sym none)
    ∙ sym (address_step values i value within here))

pub address_more : (values : List (List ℕ)) (i : ℕ) (value : List ℕ) (ip : ℕ) (keys after : List ℕ) → i < length values → value ≡ get_or values i value → read_address value ≡ Some ip → keys ≡ once_each (filter_map read_address (take i values)) → after ≡ cond (list_any (nat_eq ip) keys) keys (keys ++ ip ∷ []) → after ≡ once_each (filter_map read_address (take (i + 1) values))
address_more values i value ip keys after within here some kept put =
    let so_far = filter_map read_address (take i values) in
    put
    ∙ ap (λ (had : Bool). cond had keys (keys ++ ip ∷ [])) (same_any (nat_eq ip) (λ m. m == ip) keys (λ m. turned m ip (m == ip) refl))
    ∙ ap (λ (those : List ℕ). cond (among ip those) those (those ++ ip ∷ [])) kept
    ∙ sym (once_push (filter_map read_address (take i values)) ip)
    ∙ ap once_each
    (ap (λ (o : Option ℕ). filter_map read_address (take i values) ++ cons_option o []) (sym some)
    ∙ sym (address_step values i value within here))

-- ---- names

name_step : (values : List (List ℕ)) (i : ℕ) (value : List ℕ) → i < length values → value ≡ get_or values i value → filter_map name_in (take (i + 1) values) ≡ filter_map name_in (take i values) ++ cons_option (name_in value) []
name_step values i value within here =
    ap (filter_map name_in) (take_more values i value within ∙ ap (λ (v : List ℕ). take i values ++ v ∷ []) (sym here))
    ∙ filter_map-append name_in (take i values) (value ∷ [])

pub name_less : (values : List (List ℕ)) (i : ℕ) (value : List ℕ) (names : List (List ℕ)) → i < length values → value ≡ get_or values i value → None ≡ name_in value → names ≡ with_names [] (filter_map name_in (take i values)) → names ≡ with_names [] (filter_map name_in (take (i + 1) values))
name_less values i value names within here none kept =
    kept
    ∙ ap (with_names [])
    (sym (append-nil (filter_map name_in (take i values)))
    ∙ ap (λ (o : Option (List ℕ)). filter_map name_in (take i values) ++ cons_option o []) none
    ∙ sym (name_step values i value within here))

pub name_more : (values : List (List ℕ)) (i : ℕ) (value name : List ℕ) (names after : List (List ℕ)) → i < length values → value ≡ get_or values i value → Some name ≡ name_in value → names ≡ with_names [] (filter_map name_in (take i values)) → after ≡ with_one_name names name → after ≡ with_names [] (filter_map name_in (take (i + 1) values))
name_more values i value name names after within here some kept put =
    put
    ∙ ap (λ (those : List (List ℕ)). with_one_name those name) kept
    ∙ sym (names_append [] (filter_map name_in (take i values)) (name ∷ []))
    ∙ ap (with_names [])
    (ap (λ (o : Option (List ℕ)). filter_map name_in (take i values) ++ cons_option o []) some
    ∙ sym (name_step values i value within here))

-- ---- records of names

module _ {Z : Type 0} where
  pub names_step : (kind : ℕ) (items : List (Vec ℕ Z)) (i : ℕ) (name : Vec ℕ Z) (entry : List ℕ) → i < length items → name ≡ get_or items i name → entry ≡ naming_record kind (vec_items name) → map (naming_record kind) (names_seen (take i items)) ++ entry ∷ [] ≡ map (naming_record kind) (names_seen (take (i + 1) items))
  names_step kind items i name entry within here is =
      ap (λ (e : List ℕ). map (naming_record kind) (names_seen (take i items)) ++ e ∷ []) is
      ∙ sym (map-append (naming_record kind) (names_seen (take i items)) (vec_items name ∷ []))
      ∙ ap (map (naming_record kind)) (sym (map-append vec_items (take i items) (name ∷ [])))
      ∙ ap (λ (those : List (Vec ℕ Z)). map (naming_record kind) (names_seen those)) (ap (λ (v : Vec ℕ Z). take i items ++ v ∷ []) here ∙ sym (take_more items i name within))

  pub valid_name : (items : List (Vec ℕ Z)) (i : ℕ) (name : Vec ℕ Z) (slice : List ℕ) → i < length items → name ≡ get_or items i name → list_all is_valid (names_seen items) ≡ true → slice ≡ vec_items name → is_valid slice ≡ true
  valid_name items i name slice within here all is =
      let size : i < length (names_seen items) = omega (arith, within, names_size items) in
      ap is_valid (is ∙ ap vec_items here ∙ sym (get_or-map vec_items items i name [] within)) ∙ valid_at (names_seen items) i size all
    where
      names_size : (items : List (Vec ℕ Z)) → length (names_seen items) ≡ length items
      names_size [] = refl
      names_size (name ∷ items) = ap suc (names_size items)

  pub first_name : (items : List (Vec ℕ Z)) (name : Vec ℕ Z) (names : List (List ℕ)) → Some name ≡ slice_get items 0 → names_seen items ≡ names → first_of names ≡ Some (vec_items name)
  first_name items name names first are =
      ap first_of (sym are) ∙ slice_get-map vec_items items 0 ∙ ap (option_map vec_items) (sym first)

  pub no_first_name : (items : List (Vec ℕ Z)) (names : List (List ℕ)) → None ≡ slice_get items 0 → names_seen items ≡ names → first_of names ≡ None
  no_first_name items names first are =
      ap first_of (sym are) ∙ slice_get-map vec_items items 0 ∙ ap (option_map vec_items) (sym first)

-- ---- records of addresses

-- ---- pairs that no tuple has

empty_is : {A : Type 0} (xs : List A) → (length xs == 0) ≡ is_empty xs
empty_is [] = refl
empty_is (x ∷ xs) = ne_eqb (suc (length xs)) 0 (λ (e : suc (length xs) ≡ 0). omega (arith, e))

pub unknown_is : (attr value : List ℕ) (db : Db) (spots : List Spot) → spots ≡ spots_with attr value db → (length spots == 0) ≡ is_empty (tuples_with attr value db)
unknown_is attr value db spots are =
    ap (λ (those : List Spot). length those == 0) are
    ∙ ap (λ (n : ℕ). n == 0) (spots_count attr value db)
    ∙ empty_is (tuples_with attr value db)

pub spots_cost : (attr value : List ℕ) (db : Db) (spots : List Spot) → spots ≡ spots_with attr value db → length spots ≡ found attr value db
spots_cost attr value db spots are = ap (λ (those : List Spot). length those) are ∙ spots_count attr value db

-- ---- messages

-- ---- keys

unknown : (db : Db) (key : ZoneKey) (spots : List Spot) (b : Bool) → spots ≡ spots_with key.attr key.value db → (length spots == 0) ≡ b → is_unknown db (Some key) ≡ b
unknown db key spots b are is = sym (unknown_is key.attr key.value db spots are) ∙ is

abbrev coded : Bool → ℕ
coded b = cond b 3 0

pub code_unknown : (db : Db) (key : ZoneKey) (o : Option ZoneKey) (spots : List Spot) → Some key ≡ o → spots ≡ spots_with key.attr key.value db → (length spots == 0) ≡ true → ◌≡◌ {A = ℕ} 3 (cond (is_unknown db o) 3 0)
code_unknown db key o spots is are none =
    sym (ap (λ (k : Option ZoneKey). coded (is_unknown db k)) (sym is) ∙ ap coded (unknown db key spots true are none))

pub code_known : (db : Db) (key : ZoneKey) (o : Option ZoneKey) (spots : List Spot) → Some key ≡ o → spots ≡ spots_with key.attr key.value db → (length spots == 0) ≡ false → ◌≡◌ {A = ℕ} 0 (cond (is_unknown db o) 3 0)
code_known db key o spots is are some =
    sym (ap (λ (k : Option ZoneKey). coded (is_unknown db k)) (sym is) ∙ ap coded (unknown db key spots false are some))

pub records_unknown : (db : Db) (kind : ℕ) (key : ZoneKey) (o : Option ZoneKey) (spots : List Spot) → Some key ≡ o → spots ≡ spots_with key.attr key.value db → (length spots == 0) ≡ true → [] ≡ records_found db kind o
records_unknown db kind key o spots is are none =
    sym (ap (records_found db kind) (sym is) ∙ ap (λ (b : Bool). cond b [] (records_beside db kind key.attr key.value)) (unknown db key spots true are none))
