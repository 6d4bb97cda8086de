-- A database's text reads as it, where it is whole.
use Rattle.std.proofs.Common.{◌≡◌, ◌≢◌, ℕ, Bool, true, false, not, ◌||◌, cond, List, [], ◌∷◌, ◌++◌, refl, sym, ap, ◌∙◌, arith, Option, Some, None, bytes_eq, append-nil}
use Rattle.std.specs.List.{list_any, filter, flat_map}
use Rattle.std.proofs.lemmas.Slice.Eq.{bytes_eq-Decides}
use Rattle.net_base.specs.Ndb.{NdbPair}
use Rattle.net_base.specs.NdbText.{is_empty}
use Rattle.net_base.specs.NdbBundle.{File, unnamed_file, each_once, tuples_named, tuples_chosen, names_of, choosing, chosen, reading}
use Rattle.formats.proofs.Shared.{false_true}
use Rattle.ndb_reader.specs.Written.{db_text}
use Rattle.net_model.specs.NdbWhole.{file_values, is_local, is_file_whole}
use Rattle.net_model.proofs.NdbBundles.{bundle_reads, bundle_spelled}
use Rattle.net_model.proofs.NdbWritable.{WritableTuples, bundle_is_writable}
use Rattle.net_model.proofs.NdbWritten.{written_reads}
use Rattle.net_base.proofs.Shared.{equal_texts}

-- the one file of a text without files
abbrev local_of : List (List (List NdbPair)) → File
local_of db = record { name = unnamed_file; tuples = db }

-- the tuples of the one file with this name
abbrev of_name : List (List (List NdbPair)) → List ℕ → List (List (List NdbPair))
of_name db name = tuples_named (local_of db ∷ []) name

of-name : (db : List (List (List NdbPair))) (name : List ℕ) (v : Bool) → bytes_eq unnamed_file name ≡ v → of_name db name ≡ cond v db []
of-name db name true e = rw e (append-nil db)
of-name db name false e = rw e refl

eq-turned : (a b : List ℕ) (v : Bool) → bytes_eq a b ≡ v → bytes_eq b a ≡ v
eq-turned a b true e = grind (arith, bytes_eq-Decides a b, bytes_eq-Decides b a, e)
eq-turned a b false e = grind (arith, bytes_eq-Decides a b, bytes_eq-Decides b a, e)

none-in : (a b : List (List (List NdbPair))) → a ≡ [] → a ++ b ≡ b
none-in a b e = ap (λ (ts : List (List (List NdbPair))). ts ++ b) e

-- names without those that are like one
abbrev others : List ℕ → List (List ℕ) → List (List ℕ)
others name names = filter (λ other. not (bytes_eq other name)) names

filter-by : (db : List (List (List NdbPair))) (name other : List ℕ) (names : List (List ℕ)) (v : Bool) → bytes_eq other name ≡ v → flat_map (of_name db) (others name (other ∷ names)) ≡ cond v (flat_map (of_name db) (others name names)) (of_name db other ++ flat_map (of_name db) (others name names))
filter-by db name other names true e = rw e refl
filter-by db name other names false e = rw e refl

-- names other than the file's have no tuples
others-none : (db : List (List (List NdbPair))) (names : List (List ℕ)) → flat_map (of_name db) (others unnamed_file names) ≡ []
others-none db [] = refl
others-none db (other ∷ names) = by (bytes_eq other unnamed_file) refl (others-none db names)
  where
    by : (v : Bool) → bytes_eq other unnamed_file ≡ v → flat_map (of_name db) (others unnamed_file names) ≡ [] → flat_map (of_name db) (others unnamed_file (other ∷ names)) ≡ []
    by true e rest = filter-by db unnamed_file other names true e ∙ rest
    by false e rest =
        filter-by db unnamed_file other names false e
        ∙ (none-in (of_name db other) _ (of-name db other false (eq-turned other unnamed_file false e)) ∙ rest)

-- a name without tuples may be left out
others-all : (db : List (List (List NdbPair))) (name : List ℕ) (names : List (List ℕ)) → of_name db name ≡ [] → flat_map (of_name db) (others name names) ≡ flat_map (of_name db) names
others-all db name [] none = refl
others-all db name (other ∷ names) none = by (bytes_eq other name) refl (others-all db name names none)
  where
    by : (v : Bool) → bytes_eq other name ≡ v → flat_map (of_name db) (others name names) ≡ flat_map (of_name db) names → flat_map (of_name db) (others name (other ∷ names)) ≡ flat_map (of_name db) (other ∷ names)
    by true e rest =
        filter-by db name other names true e
        ∙ (rest ∙ sym (none-in (of_name db other) _ (ap (of_name db) (equal_texts other name e) ∙ none)))
    by false e rest = filter-by db name other names false e ∙ ap (λ (ts : List (List (List NdbPair))). of_name db other ++ ts) rest

once-names : (db : List (List (List NdbPair))) (names : List (List ℕ)) → flat_map (of_name db) (each_once names) ≡ cond (list_any is_local names) db []
once-names db [] = refl
once-names db (name ∷ names) = by (bytes_eq name unnamed_file) refl (once-names db names)
  where
    by : (v : Bool) → bytes_eq name unnamed_file ≡ v → flat_map (of_name db) (each_once names) ≡ cond (list_any is_local names) db [] → flat_map (of_name db) (each_once (name ∷ names)) ≡ cond (list_any is_local (name ∷ names)) db []
    by true e rest =
        ap (λ (ts : List (List (List NdbPair))). of_name db name ++ ts) (ap (λ (n : List ℕ). flat_map (of_name db) (others n (each_once names))) (equal_texts name unnamed_file e) ∙ others-none db (each_once names))
        ∙ (append-nil (of_name db name)
        ∙ (of-name db name true (eq-turned name unnamed_file true e)
        ∙ sym (ap (λ (v : Bool). cond (v || list_any is_local names) db []) e)))
    by false e rest =
        let none = of-name db name false (eq-turned name unnamed_file false e) in
        none-in (of_name db name) _ none
        ∙ (others-all db name (each_once names) none
        ∙ (rest ∙ sym (ap (λ (v : Bool). cond (v || list_any is_local names) db []) e)))

pub names-are : (o : Option (List (List NdbPair))) → names_of o ≡ each_once (file_values o)
names-are None = refl
names-are (Some tuple) = refl

chosen-by : (db : List (List (List NdbPair))) (names : List (List ℕ)) → tuples_chosen (local_of db) [] (each_once names) ≡ cond (is_empty names || list_any is_local names) db []
chosen-by db [] = refl
chosen-by db (name ∷ names) = once-names db (name ∷ names)

chosen-is : (db : List (List (List NdbPair))) → chosen (local_of db) [] ≡ cond (is_file_whole db) db []
chosen-is db = ap (tuples_chosen (local_of db) []) (names-are (choosing db)) ∙ chosen-by db (file_values (choosing db))

pub read_back : (text : List ℕ) (db : List (List (List NdbPair))) → reading text ≡ Some db → reading (db_text db) ≡ Some (cond (is_file_whole db) db [])
read_back text db h =
    let w : WritableTuples db = bundle_is_writable text db (bundle_spelled text db h) in
    bundle_reads (db_text db) (cond (is_file_whole db) db []) (record {
      local = local_of db;
      files = [];
      named = refl;
      read = written_reads db w;
      are_chosen = sym (chosen-is db);
    })

pub read_whole : (text : List ℕ) (db : List (List (List NdbPair))) → reading text ≡ Some db → is_file_whole db ≡ true → reading (db_text db) ≡ Some db
read_whole text db h whole = read_back text db h ∙ ap (λ (v : Bool). Some (cond v db [])) whole

whole-none : (db : List (List (List NdbPair))) → db ≡ [] → is_file_whole db ≡ true
whole-none db e = rw e refl

pub read_other : (text : List ℕ) (db : List (List (List NdbPair))) → reading text ≡ Some db → is_file_whole db ≡ false → (db ≢ []) × (reading (db_text db) ≡ Some [])
read_other text db h other = (
  λ none. absurd (false_true (sym other ∙ whole-none db none)),
  read_back text db h ∙ ap (λ (v : Bool). Some (cond v db [])) other,
)
