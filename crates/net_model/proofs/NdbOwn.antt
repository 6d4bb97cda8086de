-- A text whose first file chooses itself first reads as a database that is whole.
use Rattle.std.proofs.Common.{◌≡◌, ℕ, true, ◌||◌, List, [], ◌∷◌, ◌++◌, refl, sym, ap, ◌∙◌, arith, Option, Some, None, bytes_eq, append_assoc, append-nil, not}
use Rattle.std.specs.List.{list_any, filter, flat_map}
use Rattle.std.specs.Option.{option_or}
use Rattle.std.proofs.lemmas.List.Folds.{find-append}
use Rattle.std.proofs.lemmas.Slice.Eq.{bytes_eq-Decides}
use Rattle.net_base.specs.Ndb.{NdbPair}
use Rattle.net_base.specs.Networks.{tuple_names}
use Rattle.std.specs.Prelude.{codes}
use Rattle.net_base.specs.NdbText.{is_empty, lines_of}
use Rattle.net_base.specs.NdbBundle.{File, unnamed_file, local_file, named_files, each_once, tuples_named, tuples_chosen, choosing, chosen, bad_line, reading}
use Rattle.formats.proofs.Shared.{cons_none, some_once}
use Rattle.ndb_reader.proofs.Shared.{reading-is}
use Rattle.net_model.specs.NdbWhole.{file_values, is_local, is_file_whole, begins_local, is_file_first}
use Rattle.net_model.proofs.NdbBack.{names-are}
use Rattle.net_model.proofs.NdbBundles.{good-if}

-- the tuples of a file stand before those of the others with its name
named-first : (local : File) (files : List File) (name : List ℕ) → bytes_eq local.name name ≡ true → (more : List (List (List NdbPair))) × (tuples_named (local ∷ files) name ≡ local.tuples ++ more)
named-first local files name e = (tuples_named files name, rw e refl)

same-local : (local : File) (name : List ℕ) → local.name ≡ unnamed_file → is_local name ≡ true → bytes_eq local.name name ≡ true
same-local local name named e = grind (arith, bytes_eq-Decides name unnamed_file, bytes_eq-Decides local.name name, named, e)

-- the first file's tuples stand before others
record Leads (local : File) (files : List File) : Type 0 where
  more : List (List (List NdbPair))
  is : chosen local files ≡ local.tuples ++ more
  alone : file_values (choosing local.tuples) ≡ [] → more ≡ []

leads-by : (local : File) (files : List File) (names : List (List ℕ)) → local.name ≡ unnamed_file → file_values (choosing local.tuples) ≡ names → begins_local names ≡ true → Leads local files
leads-by local files [] named is first = record {
  more = [];
  is = ap (tuples_chosen local files) (names-are (choosing local.tuples) ∙ ap each_once is) ∙ sym (append-nil local.tuples);
  alone = λ none. refl;
}
leads-by local files (name ∷ names) named is first =
    let front = named-first local files name (same-local local name named first) in
    let rest : List (List (List NdbPair)) = flat_map (tuples_named (local ∷ files)) (filter (λ other. not (bytes_eq other name)) (each_once names)) in
    record {
      more = front.0 ++ rest;
      is = ap (tuples_chosen local files) (names-are (choosing local.tuples) ∙ ap each_once is)
          ∙ (ap (λ (ts : List (List (List NdbPair))). ts ++ rest) front.1 ∙ append_assoc local.tuples front.0 rest);
      alone = λ none. absurd (cons_none (sym is ∙ none));
    }

choosing-front : (ts us : List (List (List NdbPair))) (o : Option (List (List NdbPair))) → choosing ts ≡ o → (file_values o ≡ [] → us ≡ []) → choosing (ts ++ us) ≡ o
choosing-front ts us None e none =
    ap choosing (ap (λ (more : List (List (List NdbPair))). ts ++ more) (none refl) ∙ append-nil ts) ∙ e
choosing-front ts us (Some tuple) e none =
    find-append (tuple_names (codes "database")) ts us ∙ ap (λ (o : Option (List (List NdbPair))). option_or o (choosing us)) e

whole-by : (names : List (List ℕ)) → begins_local names ≡ true → (is_empty names || list_any is_local names) ≡ true
whole-by [] first = refl
whole-by (name ∷ names) first = rw first refl

pub first_is_whole : (text : List ℕ) (db : List (List (List NdbPair))) → reading text ≡ Some db → is_file_first (local_file (lines_of text)).tuples ≡ true → is_file_whole db ≡ true
first_is_whole text db h first =
    let local : File = local_file (lines_of text) in
    let files : List File = named_files (lines_of text) in
    let leads = leads-by local files _ refl refl first in
    let good = good-if text db (bad_line text) refl h in
    let same : chosen local files ≡ db = some_once (reading text) (chosen local files) db (reading-is text good) h in
    let is : choosing db ≡ choosing local.tuples =
    ap choosing (sym same ∙ leads.is) ∙ choosing-front local.tuples leads.more (choosing local.tuples) refl leads.alone in
    ap (λ (names : List (List ℕ)). is_empty names || list_any is_local names) (ap file_values is) ∙ whole-by (file_values (choosing local.tuples)) first
