-- Files by the numbers of their names: a walk along the chain of a name meets the files that have it.
use Rattle.std.proofs.Common.{◌≡◌, ℕ, ◌+◌, ◌-◌, ◌≤◌, ◌<◌, ◌==◌, Bool, true, false, not, cond, ◌||◌, bytes_eq, List, [], ◌∷◌, ◌++◌, map, take, drop, get_or, length, Vec, vec_items, Some, None, refl, sym, ap, ◌∙◌, subst, arith, append-nil, append_assoc, length-append}
use Rattle.std.specs.Prelude.{zero, suc, unwrap_or, nat_lt}
use Rattle.std.specs.List.{list_any, filter, flat_map, position_or_len, position}
use Rattle.std.proofs.lemmas.Bool.Decides.{nat_tests}
use Rattle.std.proofs.lemmas.List.{map-append, length-map, at_drop_more, take_more}
use Rattle.std.proofs.lemmas.List.Sums.{prefix_len-le-length}
use Rattle.std.proofs.Math.Seq.{get_or-append_seam}
use Rattle.net_base.specs.Ndb.{NdbPair}
use Rattle.net_base.specs.NdbBundle.{File, tuples_named}
use Rattle.net_base.specs.Store.{Grown, with_tuples, empty}
use Rattle.ndb_reader.specs.declared.chains.Chains.{Chains}
use Rattle.ndb_reader.specs.Chains.{first_in, width_of, AreChains}
use Rattle.ndb_reader.proofs.Walks.{in_bucket, Met, met, none-met}
use Rattle.ndb_reader.specs.Filed.{tuples_of}
use Rattle.ndb_reader.specs.Names.{names_seen, name_bucket, AreByName}
use Rattle.ndb_reader.proofs.Once.{turned}
use Rattle.net_base.proofs.Shared.{same_text, equal_texts}

abbrev pub Tuples : Type 0
Tuples = List (List (List NdbPair))

-- The number of a name.

module _ {Z : Type 0} where
  seen-at : (name : List ℕ) (keys : List (Vec ℕ Z)) → position_or_len (bytes_eq name) (names_seen keys) ≡ position_or_len (λ key. bytes_eq name (vec_items key)) keys
  seen-at name [] = refl
  seen-at name (key ∷ keys) = ap (λ (n : ℕ). cond (not (bytes_eq name (vec_items key))) (1 + n) 0) (seen-at name keys)

  pub bucket-is : (name : List ℕ) (keys : List (Vec ℕ Z)) → unwrap_or (position (λ key. bytes_eq name (vec_items key)) keys) (length keys) ≡ name_bucket (names_seen keys) name
  bucket-is name keys =
      at_or (position_or_len (λ key. bytes_eq name (vec_items key)) keys) (nat_lt (position_or_len (λ key. bytes_eq name (vec_items key)) keys) (length keys)) refl (prefix_len-le-length (λ key. not (bytes_eq name (vec_items key))) keys)
      ∙ sym (seen-at name keys)
    where
      at_or : (at : ℕ) (b : Bool) → nat_lt at (length keys) ≡ b → at ≤ length keys → unwrap_or (cond b (Some at) None) (length keys) ≡ at
      at_or at true e le = refl
      at_or at false e le = grind (arith, nat_tests, le, e)

next-same : (a b : ℕ) → (1 + a == 1 + b) ≡ (a == b)
next-same a b = by (a == b) refl
  where
    by : (t : Bool) → (a == b) ≡ t → (1 + a == 1 + b) ≡ t
    by true e = grind (arith, nat_tests, e)
    by false e = grind (arith, nat_tests, e)

-- names with one number are the same, where one of them is among those that are numbered
bucket-same : (names : List (List ℕ)) (f n : List ℕ) → list_any (bytes_eq n) names ≡ true → (name_bucket names f == name_bucket names n) ≡ bytes_eq f n
bucket-same [] f n among = absurd cc
bucket-same (x ∷ names) f n among = by (bytes_eq f x) refl (bytes_eq n x) refl among (bucket-same names f n)
  where
    by : (bf : Bool) → bytes_eq f x ≡ bf → (bn : Bool) → bytes_eq n x ≡ bn → (bn || list_any (bytes_eq n) names) ≡ true → (list_any (bytes_eq n) names ≡ true → (name_bucket names f == name_bucket names n) ≡ bytes_eq f n)
        → (cond (not bf) (1 + name_bucket names f) 0 == cond (not bn) (1 + name_bucket names n) 0) ≡ bytes_eq f n
    by true ef true en here later = sym (ap (bytes_eq f) (equal_texts n x en) ∙ ef)
    by true ef false en here later =
        let zero-not : (0 == 1 + name_bucket names n) ≡ false = grind (arith, nat_tests) in
        zero-not ∙ sym (ap (λ (g : List ℕ). bytes_eq g n) (equal_texts f x ef) ∙ turned x n ∙ en)
    by false ef true en here later =
        let not-zero : (1 + name_bucket names f == 0) ≡ false = grind (arith, nat_tests) in
        not-zero ∙ sym (ap (bytes_eq f) (equal_texts n x en) ∙ ef)
    by false ef false en here later = next-same (name_bucket names f) (name_bucket names n) ∙ later here

filter-alike : (p q : File → Bool) → ((f : File) → p f ≡ q f) → (files : List File) → filter p files ≡ filter q files
filter-alike p q alike [] = refl
filter-alike p q alike (f ∷ files) =
    ap (λ (b : Bool). cond b (f ∷ filter p files) (filter p files)) (alike f)
    ∙ ap (λ (fs : List File). cond (q f) (f ∷ fs) fs) (filter-alike p q alike files)

-- The walk.

abbrev pub number_of : List (List ℕ) → File → ℕ
number_of names file = name_bucket names file.name

bucket-named : (names : List (List ℕ)) (name : List ℕ) (files : List File) → list_any (bytes_eq name) names ≡ true → tuples_of (in_bucket (number_of names) (name_bucket names name) files) ≡ tuples_named files name
bucket-named names name files among =
    ap tuples_of (filter-alike (λ (file : File). name_bucket names file.name == name_bucket names name) (λ (file : File). bytes_eq file.name name) (λ file. bucket-same names file.name name among) files)

-- so many files are left, and the tuples of those before them that have the number are added
pub record Walk (names : List (List ℕ)) (files : List File) (bucket left : ℕ) (first out : Grown) : Type 0 where
  pub before : List File
  pub rest : List File
  pub is : before ++ rest ≡ files
  pub count : left ≡ first_in bucket (map (number_of names) rest)
  pub done : with_tuples (tuples_of (in_bucket (number_of names) bucket rest)) out ≡ with_tuples (tuples_of (in_bucket (number_of names) bucket files)) first
  pub lines : out.lines ≡ []
  pub pairs : out.pairs ≡ []

pub walk-none : (names : List (List ℕ)) (files : List File) (bucket left : ℕ) (first : Grown) → first.lines ≡ [] → first.pairs ≡ [] → left ≡ first_in bucket (map (number_of names) files) → Walk names files bucket left first first
walk-none names files bucket left first lines pairs is = record { before = []; rest = files; is = refl; count = is; done = refl; lines = lines; pairs = pairs }

abbrev meets : (names : List (List ℕ)) (bucket left : ℕ) (files : List File) (first out : Grown) → (w : Walk names files bucket left first out) → 0 < left → Met (number_of names) bucket w.rest left
meets names bucket left files first out w some = met (number_of names) bucket w.rest left w.count some

pub walk-within : (names : List (List ℕ)) (files : List File) (bucket left : ℕ) (first out : Grown) → Walk names files bucket left first out → 0 < left → left ≤ length files
walk-within names files bucket left first out w some =
    let m = meets names bucket left files first out w some in
    omega (arith, m.count, ap length w.is, length-append w.before w.rest, ap length m.is, length-append m.before (m.one ∷ m.behind))

pub walk-next : (names : List (List ℕ)) (files : List File) (bucket left count next : ℕ) (chains : Chains) (first out new : Grown) → Walk names files bucket left first out → 0 < left → AreByName names files chains → count ≡ length files
    → ((d : File) → new ≡ with_tuples (get_or files (count - left) d).tuples out)
    → ((before : List ℕ) (b : ℕ) (behind : List ℕ) → AreChains chains (before ++ b ∷ behind) → left ≡ suc (length behind) → next ≡ first_in b behind)
    → Walk names files bucket next first new × (next < left)
walk-next names files bucket left count next chains first out new w some held counted added nexts =
    let m = meets names bucket left files first out w some in
    let key = number_of names in
    let front : List File = w.before ++ m.before in
    let all : files ≡ front ++ m.one ∷ m.behind = sym w.is ∙ ap (λ (fs : List File). w.before ++ fs) m.is ∙ sym (append_assoc w.before m.before (m.one ∷ m.behind)) in
    let place : count - left ≡ length front = omega (arith, m.count, counted, ap length all, length-append front (m.one ∷ m.behind)) in
    let one : get_or files (count - left) m.one ≡ m.one =
    ap (λ (k : ℕ). get_or files k m.one) place ∙ ap (λ (fs : List File). get_or fs (length front) m.one) all ∙ get_or-append_seam front m.one m.behind m.one in
    let keys : map key files ≡ map key front ++ key m.one ∷ map key m.behind = ap (map key) all ∙ map-append key front (m.one ∷ m.behind) in
    let follows : next ≡ first_in (key m.one) (map key m.behind) =
    nexts (map key front) (key m.one) (map key m.behind) (subst (λ (bs : List ℕ). AreChains chains bs) keys held.are) (m.count ∙ ap suc (sym (length-map m.behind key))) in
    let at : next ≡ first_in bucket (map key m.behind) = follows ∙ ap (λ (b : ℕ). first_in b (map key m.behind)) m.key_is in
    let is : new ≡ with_tuples m.one.tuples out = added m.one ∙ ap (λ (f : File). with_tuples f.tuples out) one in (
      record {
        before = front ++ m.one ∷ [];
        rest = m.behind;
        is = append_assoc front (m.one ∷ []) m.behind ∙ sym all;
        count = at;
        done = ap (λ (o : Grown). with_tuples (tuples_of (in_bucket key bucket m.behind)) o) is
            ∙ ap (λ (ts : Tuples). record { tuples = ts; lines = out.lines; pairs = out.pairs }) (append_assoc out.tuples m.one.tuples (tuples_of (in_bucket key bucket m.behind)))
            ∙ ap (λ (fs : List File). with_tuples (tuples_of fs) out) (sym m.rest)
            ∙ w.done;
        lines = ap (λ (o : Grown). o.lines) is ∙ w.lines;
        pairs = ap (λ (o : Grown). o.pairs) is ∙ w.pairs;
      },
      falls m.behind at m.count,
    )
  where
    first-le : (b : ℕ) (bs : List ℕ) → first_in b bs ≤ length bs
    first-le b [] = omega arith
    first-le b (x ∷ bs) = either (x == b) (first-le b bs)
      where
        either : (t : Bool) → first_in b bs ≤ length bs → cond t (suc (length bs)) (first_in b bs) ≤ suc (length bs)
        either true le = omega arith
        either false le = omega (arith, le)

    falls : (behind : List File) → next ≡ first_in bucket (map (number_of names) behind) → left ≡ suc (length behind) → next < left
    falls behind at is = omega (arith, at, is, first-le bucket (map (number_of names) behind), length-map behind (number_of names))

pub walk-all : (names : List (List ℕ)) (files : List File) (name : List ℕ) (bucket left : ℕ) (first out : Grown) → Walk names files bucket left first out → left ≡ 0 → bucket ≡ name_bucket names name → list_any (bytes_eq name) names ≡ true → out ≡ with_tuples (tuples_named files name) first
walk-all names files name bucket left first out w none is among =
    let key = number_of names in
    let nothing : in_bucket key bucket w.rest ≡ [] = none-met key bucket w.rest (sym w.count ∙ none) in
    ap (λ (ts : Tuples). record { tuples = ts; lines = out.lines; pairs = out.pairs }) (sym (append-nil out.tuples))
    ∙ ap (λ (fs : List File). with_tuples (tuples_of fs) out) (sym nothing)
    ∙ w.done
    ∙ ap (λ (b : ℕ). with_tuples (tuples_of (in_bucket key b files)) first) is
    ∙ ap (λ (ts : Tuples). with_tuples ts first) (bucket-named names name files among)

-- The chains, from the last file to the first.

pub record Chaining (names : List (List ℕ)) (files : List File) (back : ℕ) (chains : Chains) : Type 0 where
  pub width : width_of chains ≡ length names + 1
  pub are : AreChains chains (map (number_of names) (drop (length files - back) files))

pub chaining-none : (names : List (List ℕ)) (files : List File) (chains : Chains) → width_of chains ≡ length names + 1 → AreChains chains [] → Chaining names files 0 chains
chaining-none names files chains width are = record {
  width = width;
  are = subst (λ (bs : List ℕ). AreChains chains bs) (sym (nothing files (length files - 0) (omega arith))) are;
}
  where
    nothing : (fs : List File) (n : ℕ) → n ≡ length fs → map (number_of names) (drop n fs) ≡ []
    nothing [] zero is = refl
    nothing [] (suc n) is = refl
    nothing (f ∷ fs) zero is = absurd (omega (arith, is))
    nothing (f ∷ fs) (suc n) is = nothing fs n (omega (arith, is))

pub chaining-next : (names : List (List ℕ)) (files : List File) (count back bucket : ℕ) (name : List ℕ) (chains new : Chains) → Chaining names files back chains → count ≡ length files → back < count
    → ((d : File) → name ≡ (get_or files (count - 1 - back) d).name) → bucket ≡ name_bucket names name → width_of new ≡ width_of chains
    → ((buckets : List ℕ) → AreChains chains buckets → AreChains new (bucket ∷ buckets)) → Chaining names files (back + 1) new
chaining-next names files count back bucket name chains new c counted h named is same pushed =
    let key = number_of names in
    let d : File = record { name = []; tuples = [] } in
    let i : ℕ = length files - (back + 1) in
    let at : count - 1 - back ≡ i = omega (arith, counted, h) in
    let here : bucket ≡ key (get_or files i d) = is ∙ ap (name_bucket names) (named d) ∙ ap (λ (k : ℕ). name_bucket names (get_or files k d).name) at in
    let within : i < length files = omega (arith, counted, h) in
    let up : i + 1 ≡ length files - back = omega (arith, counted, h) in
    let keys : map key (drop i files) ≡ bucket ∷ map key (drop (length files - back) files) =
    at_drop_more (λ (fs : List File). map key fs) files i d within
    ∙ ap (λ (k : ℕ). key (get_or files i d) ∷ map key (drop k files)) up
    ∙ ap (λ (b : ℕ). b ∷ map key (drop (length files - back) files)) (sym here) in
    record {
      width = same ∙ c.width;
      are = subst (λ (bs : List ℕ). AreChains new bs) (sym keys) (pushed (map key (drop (length files - back) files)) c.are);
    }

pub chaining-all : (names : List (List ℕ)) (files : List File) (count back : ℕ) (chains : Chains) → Chaining names files back chains → count ≡ length files → count ≤ back → AreByName names files chains
chaining-all names files count back chains c counted all =
    let none : length files - back ≡ 0 = omega (arith, counted, all) in
    record { width = c.width; are = subst (λ (k : ℕ). AreChains chains (map (number_of names) (drop k files))) none c.are }

-- The names in order.

module _ {Z : Type 0} where
  pub among-at : (keys : List (Vec ℕ Z)) (i : ℕ) (key : Vec ℕ Z) → i < length keys → key ≡ get_or keys i key → list_any (bytes_eq (vec_items key)) (names_seen keys) ≡ true
  among-at [] i key h is = absurd (omega (arith, h))
  among-at (k ∷ keys) zero key h is = ap (λ (b : Bool). b || list_any (bytes_eq (vec_items key)) (names_seen keys)) (ap (λ (o : Vec ℕ Z). bytes_eq (vec_items key) (vec_items o)) (sym is) ∙ same_text (vec_items key))
  among-at (k ∷ keys) (suc i) key h is = by (bytes_eq (vec_items key) (vec_items k)) (among-at keys i key (omega (arith, h)) is)
    where
      by : (b : Bool) → list_any (bytes_eq (vec_items key)) (names_seen keys) ≡ true → (b || list_any (bytes_eq (vec_items key)) (names_seen keys)) ≡ true
      by true e = refl
      by false e = e

  abbrev pub gathered : List File → List (Vec ℕ Z) → ℕ → Grown
  gathered files keys n = with_tuples (flat_map (tuples_named files) (names_seen (take n keys))) empty

  pub gathered-next : (files : List File) (keys : List (Vec ℕ Z)) (n : ℕ) (key : Vec ℕ Z) (name : List ℕ) (out new : Grown) → n < length keys → key ≡ get_or keys n key → name ≡ vec_items key → new ≡ with_tuples (tuples_named files name) out → out ≡ gathered files keys n → new ≡ gathered files keys (n + 1)
  gathered-next files keys n key name out new h is named en eo =
      let more : names_seen (take (n + 1) keys) ≡ names_seen (take n keys) ++ vec_items key ∷ [] =
      ap (λ (ks : List (Vec ℕ Z)). names_seen ks) (take_more keys n key h ∙ ap (λ (k : Vec ℕ Z). take n keys ++ k ∷ []) (sym is)) ∙ map-append vec_items (take n keys) (key ∷ []) in
      en
      ∙ ap (λ (o : Grown). with_tuples (tuples_named files name) o) eo
      ∙ ap (λ (a : List ℕ). with_tuples (tuples_named files a) (gathered files keys n)) named
      ∙ ap (λ (ts : Tuples). record { tuples = ts; lines = []; pairs = [] }) (sym (flat-push (names_seen (take n keys)) (vec_items key)))
      ∙ ap (λ (ns : List (List ℕ)). with_tuples (flat_map (tuples_named files) ns) empty) (sym more)
    where
      flat-push : (ns : List (List ℕ)) (a : List ℕ) → flat_map (tuples_named files) (ns ++ a ∷ []) ≡ flat_map (tuples_named files) ns ++ tuples_named files a
      flat-push [] a = append-nil (tuples_named files a)
      flat-push (m ∷ ns) a = ap (λ (ts : Tuples). tuples_named files m ++ ts) (flat-push ns a) ∙ sym (append_assoc (tuples_named files m) (flat_map (tuples_named files) ns) (tuples_named files a))
