-- Files that stand in a row.
use Rattle.std.proofs.Common.{◌≡◌, ℕ, ◌+◌, ◌-◌, ◌≤◌, ◌<◌, List, [], ◌∷◌, ◌++◌, length, take, drop, get_or, Vec, vec_items, refl, sym, ap, ◌∙◌, arith, append-nil, append_assoc}
use Rattle.std.specs.Prelude.{zero, suc, slice_range}
use Rattle.std.specs.List.{flat_map}
use Rattle.std.proofs.lemmas.List.{take_all, take_more, append_cancel_left}
use Rattle.std.proofs.lemmas.List.Folds.{drop_split}
use Rattle.std.proofs.Math.Seq.{take-append-add}
use Rattle.net_base.specs.NdbBundle.{File, tuples_named}
use Rattle.net_base.specs.Store.{Grown, with_tuples, empty}
use Rattle.net_base.proofs.Shared.{slice-length}
use Rattle.ndb_reader.specs.declared.files.FileEnd.{FileEnd}
use Rattle.ndb_reader.specs.Filed.{files_ended, tuple_at, tuples_of, FilesRise}
use Rattle.ndb_reader.specs.Names.{names_seen}
use Rattle.ndb_reader.proofs.Filing.{Tuples, rise-starts, files-length}
use Rattle.ndb_reader.proofs.Chained.{gathered, gathered-next}

-- the tuples of the first files, so many, as they would have grown
abbrev pub row : List File → ℕ → Grown
row files n = with_tuples (tuples_of (take n files)) empty

pub row-next : (files : List File) (n k : ℕ) (d : File) → k ≡ n → n < length files → row files (n + 1) ≡ with_tuples (get_or files k d).tuples (row files n)
row-next files n k d same h =
    ap (λ (fs : List File). with_tuples (tuples_of fs) empty) (take_more files n d h)
    ∙ ap (λ (ts : Tuples). with_tuples ts empty) (pushed (take n files) (get_or files n d))
    ∙ ap (λ (i : ℕ). with_tuples (get_or files i d).tuples (row files n)) (sym same)
  where
    pushed : (fs : List File) (f : File) → tuples_of (fs ++ f ∷ []) ≡ tuples_of fs ++ f.tuples
    pushed [] f = append-nil f.tuples
    pushed (g ∷ fs) f = ap (λ (ts : Tuples). g.tuples ++ ts) (pushed fs f) ∙ sym (append_assoc g.tuples (tuples_of fs) f.tuples)

-- what has grown is the tuples
abbrev pub tuples_grown : Grown → Tuples
tuples_grown g = g.tuples

-- the tuples of a row, by those before it and those up to its end
pub row_found : (files : List File) (first end : ℕ) (row_is wanted : Tuples) → tuples_of (take first files) ++ row_is ≡ tuples_of (take end files) → tuples_of (take end files) ≡ tuples_of (take first files) ++ wanted → row_is ≡ wanted
row_found files first end row_is wanted here all = append_cancel_left (tuples_of (take first files)) row_is wanted (here ∙ all)

module _ {Z : Type 0} where
  -- from the first file of the row to its end stand the tuples of the first names, so many
  abbrev pub Rows : List File → List (Vec ℕ Z) → ℕ → ℕ → ℕ → Type 0
  Rows files keys n first end = tuples_of (take end files) ≡ tuples_of (take first files) ++ flat_map (tuples_named files) (names_seen (take n keys))

  pub rows-none : (files : List File) (keys : List (Vec ℕ Z)) (first : ℕ) → Rows files keys 0 first first
  rows-none files keys first = sym (append-nil (tuples_of (take first files)))

  -- one name more
  pub rows-next : (files : List File) (keys : List (Vec ℕ Z)) (n first end next : ℕ) (key : Vec ℕ Z) (name : List ℕ) → n < length keys → key ≡ get_or keys n key → name ≡ vec_items key
      → tuples_of (take next files) ≡ tuples_of (take end files) ++ tuples_named files name → Rows files keys n first end → Rows files keys (n + 1) first next
  rows-next files keys n first end next key name h is named en eo =
      let so_far : Tuples = flat_map (tuples_named files) (names_seen (take n keys)) in
      let more : so_far ++ tuples_named files name ≡ flat_map (tuples_named files) (names_seen (take (n + 1) keys)) =
      ap tuples_grown (gathered-next files keys n key name (gathered files keys n) (with_tuples (tuples_named files name) (gathered files keys n)) h is named refl refl) in
      en ∙ ap (λ (ts : Tuples). ts ++ tuples_named files name) eo
      ∙ append_assoc (tuples_of (take first files)) so_far (tuples_named files name)
      ∙ ap (λ (ts : Tuples). tuples_of (take first files) ++ ts) more

  pub rows-all : (files : List File) (keys items : List (Vec ℕ Z)) (n first end : ℕ) → items ≡ keys → length items ≤ n → Rows files items n first end
      → tuples_of (take end files) ≡ tuples_of (take first files) ++ flat_map (tuples_named files) (names_seen keys)
  rows-all files keys items n first end is all eo =
      eo ∙ ap (λ (ks : List (Vec ℕ Z)). tuples_of (take first files) ++ flat_map (tuples_named files) (names_seen ks)) (take_all n items all ∙ is)

-- The tuples of the first files are the first tuples.

slice-join : {X : Type 0} (xs : List X) (a b c : ℕ) → a ≤ b → b ≤ c → b ≤ length xs → slice_range xs a c ≡ slice_range xs a b ++ slice_range xs b c
slice-join xs a b c ab bc within =
    let len : length (slice_range xs a b) ≡ b - a = slice-length xs a b ab within in
    let count : c - a ≡ length (slice_range xs a b) + (c - b) = omega (arith, len, ab, bc) in
    ap (take (c - a)) (drop_split xs a b ab)
    ∙ ap (λ (n : ℕ). take n (slice_range xs a b ++ drop b xs)) count
    ∙ take-append-add (slice_range xs a b) (drop b xs) (c - b)

at-least : (name tuple : ℕ) (ends : List FileEnd) (bytes count n : ℕ) → FilesRise name tuple ends bytes count → n ≤ length ends → tuple ≤ tuple_at tuple ends n
at-least name tuple ends bytes count zero rise h = omega arith
at-least name tuple [] bytes count (suc n) rise h = absurd (omega (arith, h))
at-least name tuple (end ∷ ends) bytes count (suc n) rise h = omega (arith, rise.1, at-least end.name end.tuple ends bytes count n rise.2 (omega (arith, h)))

files-first : (name tuple : ℕ) (ends : List FileEnd) (names : List ℕ) (db : Tuples) (n : ℕ) → FilesRise name tuple ends (length names) (length db) → n ≤ length ends → slice_range db tuple (tuple_at tuple ends n) ≡ tuples_of (take n (files_ended name tuple ends names db))
files-first name tuple ends names db zero rise h =
    let none : tuple - tuple ≡ 0 = omega arith in
    ap (λ (k : ℕ). take k (drop tuple db)) none
files-first name tuple [] names db (suc n) rise h = absurd (omega (arith, h))
files-first name tuple (end ∷ ends) names db (suc n) rise h =
    let rest : n ≤ length ends = omega (arith, h) in
    slice-join db tuple end.tuple (tuple_at end.tuple ends n) rise.1 (at-least end.name end.tuple ends (length names) (length db) n rise.2 rest) (rise-starts end.name end.tuple ends (length names) (length db) rise.2).1
    ∙ ap (λ (ts : Tuples). slice_range db tuple end.tuple ++ ts) (files-first end.name end.tuple ends names db n rise.2 rest)

pub first-row : (ends : List FileEnd) (names : List ℕ) (db : Tuples) (n end : ℕ) → FilesRise 0 0 ends (length names) (length db) → n ≤ length (files_ended 0 0 ends names db) → end ≡ tuple_at 0 ends n → take end db ≡ tuples_of (take n (files_ended 0 0 ends names db))
first-row ends names db n end rise h is =
    let within : n ≤ length ends = omega (arith, h, files-length 0 0 ends names db) in
    let whole : tuple_at 0 ends n ≡ tuple_at 0 ends n - 0 = omega arith in
    ap (λ (k : ℕ). take k db) (is ∙ whole) ∙ files-first 0 0 ends names db n rise within

-- a row ends where it begins or behind that
pub row-rises : (name tuple : ℕ) (ends : List FileEnd) (bytes count n m : ℕ) → FilesRise name tuple ends bytes count → n ≤ m → m ≤ length ends → tuple_at tuple ends n ≤ tuple_at tuple ends m
row-rises name tuple ends bytes count zero m rise le h = at-least name tuple ends bytes count m rise h
row-rises name tuple ends bytes count (suc n) zero rise le h = absurd (omega (arith, le))
row-rises name tuple [] bytes count (suc n) (suc m) rise le h = absurd (omega (arith, h))
row-rises name tuple (end ∷ ends) bytes count (suc n) (suc m) rise le h = row-rises end.name end.tuple ends bytes count n m rise.2 (omega (arith, le)) (omega (arith, h))

pub row-within : (name tuple : ℕ) (ends : List FileEnd) (bytes count n : ℕ) → FilesRise name tuple ends bytes count → n ≤ length ends → tuple_at tuple ends n ≤ count
row-within name tuple ends bytes count zero rise h = (rise-starts name tuple ends bytes count rise).1
row-within name tuple [] bytes count (suc n) rise h = absurd (omega (arith, h))
row-within name tuple (end ∷ ends) bytes count (suc n) rise h = row-within end.name end.tuple ends bytes count n rise.2 (omega (arith, h))

-- the tuples of a row behind those of the files before it
pub row-kept : (ends : List FileEnd) (names : List ℕ) (db own : Tuples) (first end from to : ℕ) → FilesRise 0 0 ends (length names) (length db) → first ≤ end → end ≤ length (files_ended 0 0 ends names db)
    → from ≡ tuple_at 0 ends first → to ≡ tuple_at 0 ends end → own ≡ slice_range db from to → tuples_of (take first (files_ended 0 0 ends names db)) ++ own ≡ tuples_of (take end (files_ended 0 0 ends names db))
row-kept ends names db own first end from to rise le h begins stops is =
    let files : List File = files_ended 0 0 ends names db in
    let within : end ≤ length ends = omega (arith, h, files-length 0 0 ends names db) in
    let rises : from ≤ to = omega (arith, begins, stops, row-rises 0 0 ends (length names) (length db) first end rise le within) in
    let inside : from ≤ length db = omega (arith, begins, row-within 0 0 ends (length names) (length db) first rise (omega (arith, le, within))) in
    let one : from ≡ from - 0 = omega arith in
    let two : to - 0 ≡ to = omega arith in
    ap (λ (ts : Tuples). ts ++ own) (sym (first-row ends names db first from rise (omega (arith, le, h)) begins))
    ∙ ap (λ (ts : Tuples). take from db ++ ts) is
    ∙ ap (λ (n : ℕ). take n db ++ slice_range db from to) one
    ∙ sym (slice-join db 0 from to (omega arith) rises inside)
    ∙ ap (λ (n : ℕ). take n db) two
    ∙ first-row ends names db end to rise h stops
