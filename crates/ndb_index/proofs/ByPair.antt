-- Pairs by their buckets: a walk along the chain of a pair meets all that are the same.
use Rattle.std.proofs.Common.{◌≡◌, ℕ, ◌+◌, ◌-◌, ◌≤◌, ◌<◌, ◌==◌, Bool, true, false, cond, bytes_eq, List, [], ◌∷◌, ◌++◌, map, drop, get_or, length, refl, sym, ap, ◌∙◌, subst, zero, suc, arith, append_assoc, length-append}
use Rattle.std.specs.Prelude.{zip}
use Rattle.std.specs.List.{filter}
use Rattle.std.specs.Cmp.{first_so, second_so}
use Rattle.std.specs.Cmp.Lexicographic.{bytes_decides}
use Rattle.std.proofs.lemmas.Bool.Decides.{nat_tests}
use Rattle.std.proofs.lemmas.List.{map-append, length-map, at_drop_more}
use Rattle.std.proofs.Math.Seq.{get_or-append_seam}
use Rattle.net_base.specs.Ndb.{NdbPair}
use Rattle.net_base.specs.Search.{is_pair}
use Rattle.net_base.specs.Spots.{pair_spots}
use Rattle.net_base.specs.Store.{all_pairs}
use Rattle.net_base.specs.declared.ndb.spot.Spot.{Spot}
use Rattle.ndb_reader.specs.declared.chains.Chains.{Chains}
use Rattle.ndb_reader.specs.Chains.{first_in, width_of, AreChains}
use Rattle.ndb_reader.proofs.Shared.{first-within, in_bucket, Met, met, none-met}
use Rattle.ndb_index.specs.Chained.{width_for, AreByPair}
use Rattle.ndb_index.specs.Hashing.{bucket_of_pair, pair_bucket}
use Rattle.ndb_index.specs.Kept.{spots_noted, spots_with}
use Rattle.ndb_index.proofs.Notes.{Placed, placed, pairs_noted, placed_noted, placed_length, spots_length, Notes, notes-one}

abbrev pub Db : Type 0
Db = List (List (List NdbPair))

-- The chains, from the last pair to the first.

pub record Chaining (db : Db) (width back : ℕ) (chains : Chains) : Type 0 where
  pub width_is : width_of chains ≡ width
  pub are : AreChains chains (map (pair_bucket width) (drop (length (all_pairs db) - back) (all_pairs db)))

pub chaining-none : (db : Db) (width : ℕ) (chains : Chains) → width_of chains ≡ width → AreChains chains [] → Chaining db width 0 chains
chaining-none db width chains is are = record {
  width_is = is;
  are = subst (λ (bs : List ℕ). AreChains chains bs) (sym (nothing (all_pairs db) (length (all_pairs db) - 0) (omega arith))) are;
}
  where
    nothing : (ps : List NdbPair) (n : ℕ) → n ≡ length ps → map (pair_bucket width) (drop n ps) ≡ []
    nothing [] zero is = refl
    nothing [] (suc n) is = refl
    nothing (p ∷ ps) zero is = absurd (omega (arith, is))
    nothing (p ∷ ps) (suc n) is = nothing ps n (omega (arith, is))

pub chaining-next : (db : Db) (width count back bucket : ℕ) (pair : NdbPair) (attr value : List ℕ) (chains new : Chains) → Chaining db width back chains → count ≡ length (all_pairs db) → back < count
    → ((d : NdbPair) → pair ≡ get_or (all_pairs db) (count - 1 - back) d) → attr ≡ pair.attr → value ≡ pair.value → bucket ≡ bucket_of_pair width attr value → width_of new ≡ width_of chains
    → ((buckets : List ℕ) → AreChains chains buckets → AreChains new (bucket ∷ buckets)) → Chaining db width (back + 1) new
chaining-next db width count back bucket pair attr value chains new c counted h here ea ev is same pushed =
    let pairs : List NdbPair = all_pairs db in
    let key : NdbPair → ℕ = pair_bucket width in
    let i : ℕ = length pairs - (back + 1) in
    let at : count - 1 - back ≡ i = omega (arith, counted, h) in
    let own : bucket ≡ key (get_or pairs i pair) =
    is ∙ ap (λ (a : List ℕ). bucket_of_pair width a value) ea ∙ ap (λ (v : List ℕ). bucket_of_pair width pair.attr v) ev ∙ ap key (here pair) ∙ ap (λ (k : ℕ). key (get_or pairs k pair)) at in
    let within : i < length pairs = omega (arith, counted, h) in
    let up : i + 1 ≡ length pairs - back = omega (arith, counted, h) in
    let keys : map key (drop i pairs) ≡ bucket ∷ map key (drop (length pairs - back) pairs) =
    at_drop_more (λ (ps : List NdbPair). map key ps) pairs i pair within
    ∙ ap (λ (k : ℕ). key (get_or pairs i pair) ∷ map key (drop k pairs)) up
    ∙ ap (λ (b : ℕ). b ∷ map key (drop (length pairs - back) pairs)) (sym own) in
    record {
      width_is = same ∙ c.width_is;
      are = subst (λ (bs : List ℕ). AreChains new bs) (sym keys) (pushed (map key (drop (length pairs - back) pairs)) c.are);
    }

pub chaining-all : (db : Db) (width count back : ℕ) (chains : Chains) → Chaining db width back chains → width ≡ width_for db → count ≡ length (all_pairs db) → count ≤ back → AreByPair db chains
chaining-all db width count back chains c wide counted all =
    let none : length (all_pairs db) - back ≡ 0 = omega (arith, counted, all) in
    record {
      width = c.width_is ∙ wide;
      are = subst (λ (n : ℕ). AreChains chains (map (pair_bucket n) (all_pairs db))) wide
          (subst (λ (k : ℕ). AreChains chains (map (pair_bucket width) (drop k (all_pairs db)))) none c.are);
    }

-- The walk.

abbrev pub item_bucket : ℕ → NdbPair × Spot → ℕ
item_bucket width item = pair_bucket width item.0

buckets_are : (width : ℕ) (pairs : List NdbPair) (spots : List Spot) → length spots ≡ length pairs → map (item_bucket width) (zip pairs spots) ≡ map (pair_bucket width) pairs
buckets_are width [] spots same = refl
buckets_are width (pair ∷ pairs) [] same = absurd (omega (arith, same))
buckets_are width (pair ∷ pairs) (spot ∷ spots) same = ap (λ (bs : List ℕ). pair_bucket width pair ∷ bs) (buckets_are width pairs spots (omega (arith, same)))

-- those of a bucket, with where they stand or without
items_alike : (width bucket : ℕ) (pairs : List NdbPair) (spots : List Spot) → length spots ≡ length pairs → length (in_bucket (item_bucket width) bucket (zip pairs spots)) ≡ length (filter (λ pair. pair_bucket width pair == bucket) pairs)
items_alike width bucket [] spots same = refl
items_alike width bucket (pair ∷ pairs) [] same = absurd (omega (arith, same))
items_alike width bucket (pair ∷ pairs) (spot ∷ spots) same = by (pair_bucket width pair == bucket) (items_alike width bucket pairs spots (omega (arith, same)))
  where
    by : (b : Bool) → length (in_bucket (item_bucket width) bucket (zip pairs spots)) ≡ length (filter (λ p. pair_bucket width p == bucket) pairs)
        → length (cond b ((pair, spot) ∷ in_bucket (item_bucket width) bucket (zip pairs spots)) (in_bucket (item_bucket width) bucket (zip pairs spots))) ≡ length (cond b (pair ∷ filter (λ p. pair_bucket width p == bucket) pairs) (filter (λ p. pair_bucket width p == bucket) pairs))
    by true e = ap suc e
    by false e = e

same_bucket : (width : ℕ) (attr value : List ℕ) (pair : NdbPair) → is_pair attr value pair ≡ true → pair_bucket width pair ≡ bucket_of_pair width attr value
same_bucket width attr value pair e =
    ap (λ (a : List ℕ). bucket_of_pair width a pair.value) ((bytes_decides pair.attr attr).0 (first_so (bytes_eq pair.attr attr) (bytes_eq pair.value value) e))
    ∙ ap (λ (v : List ℕ). bucket_of_pair width attr v) ((bytes_decides pair.value value).0 (second_so (bytes_eq pair.attr attr) (bytes_eq pair.value value) e))

-- those of another bucket are other pairs
bucket_noted : (width bucket : ℕ) (attr value : List ℕ) (items : Placed) (spots : List Spot) → bucket ≡ bucket_of_pair width attr value → pairs_noted attr value (in_bucket (item_bucket width) bucket items) spots ≡ pairs_noted attr value items spots
bucket_noted width bucket attr value [] spots is = refl
bucket_noted width bucket attr value (item ∷ items) spots is =
    by (item_bucket width item == bucket) refl (is_pair attr value item.0) refl
    (bucket_noted width bucket attr value items (spots_noted (is_pair attr value item.0) item.1 spots) is)
  where
    by : (b : Bool) → (item_bucket width item == bucket) ≡ b → (p : Bool) → is_pair attr value item.0 ≡ p
        → pairs_noted attr value (in_bucket (item_bucket width) bucket items) (spots_noted (is_pair attr value item.0) item.1 spots) ≡ pairs_noted attr value items (spots_noted (is_pair attr value item.0) item.1 spots)
        → pairs_noted attr value (cond b (item ∷ in_bucket (item_bucket width) bucket items) (in_bucket (item_bucket width) bucket items)) spots ≡ pairs_noted attr value items (spots_noted (is_pair attr value item.0) item.1 spots)
    by true eb p ep rest = rest
    by false eb true ep rest =
        let here : item_bucket width item ≡ bucket = same_bucket width attr value item.0 ep ∙ sym is in
        absurd (grind (arith, nat_tests, eb, here))
    by false eb false ep rest =
        let still : spots_noted (is_pair attr value item.0) item.1 spots ≡ spots = ap (λ (b : Bool). spots_noted b item.1 spots) ep in
        ap (pairs_noted attr value (in_bucket (item_bucket width) bucket items)) (sym still) ∙ rest

-- so many pairs are left, those before them are noted, and so many steps were made, with the others of the bucket at most so many
pub record Walk (db : Db) (width left : ℕ) (attr value : List ℕ) (spots : List Spot) (steps most : ℕ) : Type 0 where
  pub before : Placed
  pub rest : Placed
  pub is : before ++ rest ≡ placed db
  pub count : left ≡ first_in (bucket_of_pair width attr value) (map (item_bucket width) rest)
  pub looks : steps + length (in_bucket (item_bucket width) (bucket_of_pair width attr value) rest) ≤ most
  pub done : pairs_noted attr value (in_bucket (item_bucket width) (bucket_of_pair width attr value) rest) spots ≡ spots_with attr value db

pub walk-none : (db : Db) (width left bucket : ℕ) (attr value : List ℕ) (spots : List Spot) (steps most : ℕ) → most ≡ steps + length (filter (λ pair. pair_bucket width pair == bucket_of_pair width attr value) (all_pairs db)) → spots ≡ [] → bucket ≡ bucket_of_pair width attr value → left ≡ first_in bucket (map (pair_bucket width) (all_pairs db)) → Walk db width left attr value spots steps most
walk-none db width left bucket attr value spots steps most all none own is =
    let keys : map (item_bucket width) (placed db) ≡ map (pair_bucket width) (all_pairs db) = buckets_are width (all_pairs db) (pair_spots db) (spots_length db) in
    record {
      before = [];
      rest = placed db;
      is = refl;
      count = is ∙ ap (λ (b : ℕ). first_in b (map (pair_bucket width) (all_pairs db))) own ∙ ap (first_in (bucket_of_pair width attr value)) (sym keys);
      looks = omega (arith, all, items_alike width (bucket_of_pair width attr value) (all_pairs db) (pair_spots db) (spots_length db));
      done = bucket_noted width (bucket_of_pair width attr value) attr value (placed db) spots refl ∙ ap (pairs_noted attr value (placed db)) none ∙ placed_noted attr value db;
    }

abbrev meets : (db : Db) (width left : ℕ) (attr value : List ℕ) (spots : List Spot) (steps most : ℕ) → (w : Walk db width left attr value spots steps most) → 0 < left → Met (item_bucket width) (bucket_of_pair width attr value) w.rest left
meets db width left attr value spots steps most w some = met (item_bucket width) (bucket_of_pair width attr value) w.rest left w.count some

pub walk-within : (db : Db) (width left : ℕ) (attr value : List ℕ) (spots : List Spot) (steps most : ℕ) → Walk db width left attr value spots steps most → 0 < left → left ≤ length (all_pairs db)
walk-within db width left attr value spots steps most w some =
    let m = meets db width left attr value spots steps most w some in
    omega (arith, m.count, ap (λ (xs : Placed). length xs) w.is, length-append w.before w.rest, ap (λ (xs : Placed). length xs) m.is, length-append m.before (m.one ∷ m.behind), placed_length db)

-- a step more is within those
pub walk-costs : (db : Db) (width left : ℕ) (attr value : List ℕ) (spots : List Spot) (steps most : ℕ) → Walk db width left attr value spots steps most → 0 < left → steps + 1 ≤ most
walk-costs db width left attr value spots steps most w some =
    let m = meets db width left attr value spots steps most w some in
    omega (arith, w.looks, ap (λ (xs : Placed). length xs) m.rest)

pub walk-next : (db : Db) (width left count next : ℕ) (attr value : List ℕ) (chains : Chains) (spots new : List Spot) (steps later most : ℕ) → Walk db width left attr value spots steps most → 0 < left → AreByPair db chains → width ≡ width_for db → later ≡ steps + 1 → count ≡ length (all_pairs db)
    → Notes db (count - left) attr value spots new
    → ((before : List ℕ) (b : ℕ) (behind : List ℕ) → AreChains chains (before ++ b ∷ behind) → left ≡ suc (length behind) → next ≡ first_in b behind)
    → Walk db width next attr value new later most × (next < left)
walk-next db width left count next attr value chains spots new steps later most w some held wide one_more counted noting nexts =
    let m = meets db width left attr value spots steps most w some in
    let key : NdbPair × Spot → ℕ = item_bucket width in
    let front : Placed = w.before ++ m.before in
    let all : placed db ≡ front ++ m.one ∷ m.behind = sym w.is ∙ ap (λ (xs : Placed). w.before ++ xs) m.is ∙ sym (append_assoc w.before m.before (m.one ∷ m.behind)) in
    let size : length (placed db) ≡ length (all_pairs db) = placed_length db in
    let place : count - left ≡ length front = omega (arith, m.count, counted, size, ap (λ (xs : Placed). length xs) all, length-append front (m.one ∷ m.behind)) in
    let within : count - left < length (all_pairs db) = omega (arith, place, size, ap (λ (xs : Placed). length xs) all, length-append front (m.one ∷ m.behind)) in
    let one : get_or (placed db) (count - left) m.one ≡ m.one =
    ap (λ (k : ℕ). get_or (placed db) k m.one) place ∙ ap (λ (xs : Placed). get_or xs (length front) m.one) all ∙ get_or-append_seam front m.one m.behind m.one in
    let keys : map (pair_bucket width) (all_pairs db) ≡ map key front ++ key m.one ∷ map key m.behind =
    sym (buckets_are width (all_pairs db) (pair_spots db) (spots_length db)) ∙ ap (map key) all ∙ map-append key front (m.one ∷ m.behind) in
    let chained : AreChains chains (map (pair_bucket width) (all_pairs db)) = subst (λ (n : ℕ). AreChains chains (map (pair_bucket n) (all_pairs db))) (sym wide) held.are in
    let follows : next ≡ first_in (key m.one) (map key m.behind) =
    nexts (map key front) (key m.one) (map key m.behind) (subst (λ (bs : List ℕ). AreChains chains bs) keys chained) (m.count ∙ ap suc (sym (length-map m.behind key))) in
    let at : next ≡ first_in (bucket_of_pair width attr value) (map key m.behind) = follows ∙ ap (λ (b : ℕ). first_in b (map key m.behind)) m.key_is in (
      record {
        before = front ++ m.one ∷ [];
        rest = m.behind;
        is = append_assoc front (m.one ∷ []) m.behind ∙ sym all;
        count = at;
        looks = omega (arith, w.looks, ap (λ (xs : Placed). length xs) m.rest, one_more);
        done = ap (pairs_noted attr value (in_bucket key (bucket_of_pair width attr value) m.behind)) (notes-one db (count - left) attr value spots new m.one noting within one)
            ∙ ap (λ (xs : Placed). pairs_noted attr value xs spots) (sym m.rest)
            ∙ w.done;
      },
      omega (arith, at, m.count, first-within (bucket_of_pair width attr value) (map key m.behind), length-map m.behind key),
    )

pub walk-all : (db : Db) (width left : ℕ) (attr value : List ℕ) (spots : List Spot) (steps most : ℕ) → Walk db width left attr value spots steps most → left ≡ 0 → spots ≡ spots_with attr value db
walk-all db width left attr value spots steps most w none =
    let nothing : in_bucket (item_bucket width) (bucket_of_pair width attr value) w.rest ≡ [] = none-met (item_bucket width) (bucket_of_pair width attr value) w.rest (sym w.count ∙ none) in
    ap (λ (xs : Placed). pairs_noted attr value xs spots) (sym nothing) ∙ w.done
