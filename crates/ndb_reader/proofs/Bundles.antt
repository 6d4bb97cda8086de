-- A bundle without a bad line is spelled by the tuples of its database.
use Rattle.std.proofs.Common.{◌≡◌, ℕ, ◌+◌, Bool, true, false, not, ◌||◌, List, [], ◌∷◌, ◌++◌, length, take, drop, get_or, refl, sym, ap, subst, ◌∙◌, arith, None, length-append}
use Rattle.std.specs.Prelude.{codes}
use Rattle.std.specs.List.{list_any, before_first}
use Rattle.std.proofs.Math.Seq.{take-append_seam}
use Rattle.std.proofs.Math.ListN.{take-append-drop}
use Rattle.std.proofs.lemmas.List.{take_all}
use Rattle.std.proofs.lemmas.Slice.Eq.{bytes_eq-Decides}
use Rattle.std.proofs.lemmas.Bool.{and_parts, not-true}
use Rattle.net_base.specs.Ndb.{NdbPair}
use Rattle.net_base.specs.NdbText.{is_white, is_zero, is_empty, starts_tuple, goes_on, going_on, tuples_of, lines_of, begins_with}
use Rattle.net_base.specs.NdbBundle.{File, unnamed_file, local_file, named_files, file_of, bundle_file, is_file_line, has_tuple, causes_of, first_bad, bad_line, database}
use Rattle.formats.specs.NdbSpelling.{ReadsTuples, ReadsFile, ReadsFiles, ReadsBundle, IsFileName}
use Rattle.formats.proofs.Shared.{none-drop, EachSpelled, line_is_spelled, tuples_spelled, cause-none, first-good, not_alone, going_on-at, and_not, some_of}
use Rattle.ndb_reader.proofs.Reading.{Next, has-file, has-line, before-more, before-stop, named-more, named-stop}

no-zero : (has : Bool) (line : List ℕ) → causes_of has line ≡ [] → list_any is_zero line ≡ false
no-zero has line e =
    let two = (cause-none 1 _ _ e).1 in
    let three = (cause-none 2 _ _ two).1 in
    let four = (cause-none 3 _ _ three).1 in
    let five = (cause-none 4 _ _ four).1 in
    (cause-none 5 _ _ five).0

-- The line that begins a file.

file-spelled : (line : List ℕ) → is_file_line line ≡ true → line ≡ codes "%file " ++ bundle_file line
file-spelled line file =
    let front = (and_parts (begins_with (codes "%file ") line) _ file).0 in
    let same : codes "%file " ≡ take 6 line = grind (arith, bytes_eq-Decides (codes "%file ") (take 6 line), front) in
    sym (take-append-drop 6 line) ∙ ap (λ f. f ++ drop 6 line) (sym same)

file-named : (has : Bool) (line : List ℕ) → is_file_line line ≡ true → causes_of has line ≡ [] → IsFileName (bundle_file line)
file-named has line file good =
    let rest = (and_parts (begins_with (codes "%file ") line) _ file).1 in
    let parts = and_parts (not (is_empty (bundle_file line))) (not (list_any is_white (bundle_file line))) rest in
    record {
      some = some_of (bundle_file line) (not-true _ parts.0);
      white = not-true _ parts.1;
      zero = none-drop is_zero 6 line (no-zero has line good);
    }

-- What stands before.

at-end : (before : List (List ℕ)) (line : List ℕ) → Next (before ++ line ∷ []) (length before) line
at-end before line = record { within = omega (arith, length-append before (line ∷ [])); is = sym (here before) }
  where
    here : (ls : List (List ℕ)) → get_or (ls ++ line ∷ []) (length ls) line ≡ line
    here [] = refl
    here (l ∷ ls) = here ls

pub whole : (before : List (List ℕ)) (line : List ℕ) → take (length before + 1) (before ++ line ∷ []) ≡ before ++ line ∷ []
whole before line = take_all (length before + 1) (before ++ line ∷ []) (omega (arith, length-append before (line ∷ [])))

push-file : (before : List (List ℕ)) (line : List ℕ) → is_file_line line ≡ true → has_tuple (before ++ line ∷ []) ≡ false
push-file before line file = ap has_tuple (sym (whole before line)) ∙ has-file (before ++ line ∷ []) (length before) line (at-end before line) file

pub push-line : (before : List (List ℕ)) (line : List ℕ) → is_file_line line ≡ false → has_tuple (before ++ line ∷ []) ≡ (has_tuple before || (starts_tuple line || false))
push-line before line file =
    ap has_tuple (sym (whole before line))
    ∙ has-line (before ++ line ∷ []) (length before) line (at-end before line) file
    ∙ ap (λ (ls : List (List ℕ)). has_tuple ls || (starts_tuple line || false)) (take-append_seam before (line ∷ []))

-- no line goes on before one starts a tuple
none-on : (before lines : List (List ℕ)) → has_tuple before ≡ false → first_bad causes_of before lines ≡ None → going_on (before_first is_file_line lines) ≡ []
none-on before [] none good = refl
none-on before (line ∷ lines) none good = by (is_file_line line) refl (starts_tuple line) refl (λ file start. none-on (before ++ line ∷ []) lines (push-line before line file ∙ ap (λ b. b || (starts_tuple line || false)) none ∙ ap (λ b. b || false) start) (first-good before line lines good).1)
  where
    by : (f : Bool) → is_file_line line ≡ f → (s : Bool) → starts_tuple line ≡ s → (is_file_line line ≡ false → starts_tuple line ≡ false → going_on (before_first is_file_line lines) ≡ []) → going_on (before_first is_file_line (line ∷ lines)) ≡ []
    by true e s t rest = ap going_on (before-stop line lines e)
    by false e true t rest = ap going_on (before-more line lines e) ∙ going_on-at line (before_first is_file_line lines) true _ t refl
    by false e false t rest =
        let off : goes_on line ≡ false = and_not (goes_on line) (has_tuple before) none (not_alone (has_tuple before) line (first-good before line lines good).0) in
        ap going_on (before-more line lines e) ∙ going_on-at line (before_first is_file_line lines) false false t off ∙ rest e t

-- Files.

-- what stands behind the first file's lines
Tail : List (List ℕ) → List File → Type 0
Tail lines [] = before_first is_file_line lines ≡ lines
Tail lines (next ∷ files) = (rest : List (List ℕ)) × (lines ≡ before_first is_file_line lines ++ (codes "%file " ++ next.name) ∷ rest) × IsFileName next.name × ReadsFiles rest next files

reads-if : (lines : List (List ℕ)) (name : List ℕ) (tuples : List (List (List NdbPair))) (files : List File) → Tail lines files → ReadsFile (before_first is_file_line lines) tuples → ReadsFiles lines (record { name = name; tuples = tuples }) files
unfolding Tail
reads-if lines name tuples [] tail reads = subst (λ (ls : List (List ℕ)). ReadsFile ls tuples) tail reads
reads-if lines name tuples (next ∷ files) tail reads = (before_first is_file_line lines, tail.0, tail.1, tail.2, reads, tail.3)

-- lines whose first file has no tuple before it
reads-from : (lines : List (List ℕ)) (name : List ℕ) → EachSpelled (before_first is_file_line lines) → going_on (before_first is_file_line lines) ≡ [] → Tail lines (named_files lines) → ReadsFiles lines (file_of name lines) (named_files lines)
reads-from lines name spelled none tail =
    reads-if lines name (tuples_of (before_first is_file_line lines)) (named_files lines) tail
    (subst (λ (more : List (List NdbPair)). ReadsTuples (before_first is_file_line lines) more (tuples_of (before_first is_file_line lines))) none (tuples_spelled (before_first is_file_line lines) spelled))

tail-more : (line : List ℕ) (lines : List (List ℕ)) (files : List File) → is_file_line line ≡ false → Tail lines files → Tail (line ∷ lines) files
unfolding Tail
tail-more line lines [] file tail = before-more line lines file ∙ ap (λ (ls : List (List ℕ)). line ∷ ls) tail
tail-more line lines (next ∷ files) file tail =
    (tail.0, ap (λ (ls : List (List ℕ)). line ∷ ls) tail.1 ∙ ap (λ (ls : List (List ℕ)). ls ++ (codes "%file " ++ next.name) ∷ tail.0) (sym (before-more line lines file)), tail.2, tail.3)

abbrev Spelled : List (List ℕ) → Type 0
Spelled lines = EachSpelled (before_first is_file_line lines) × Tail lines (named_files lines)

spelled : (before lines : List (List ℕ)) → first_bad causes_of before lines ≡ None → Spelled lines
unfolding Tail
spelled before [] good = (tt, refl)
spelled before (line ∷ lines) good = by (is_file_line line) refl (spelled (before ++ line ∷ []) lines (first-good before line lines good).1)
  where
    by : (f : Bool) → is_file_line line ≡ f → Spelled lines → Spelled (line ∷ lines)
    by true e rest = (
      subst EachSpelled (sym (before-stop line lines e)) tt,
      subst (Tail (line ∷ lines)) (sym (named-stop line lines e)) (
        lines,
        ap (λ (l : List ℕ). l ∷ lines) (file-spelled line e) ∙ ap (λ (ls : List (List ℕ)). ls ++ (codes "%file " ++ bundle_file line) ∷ lines) (sym (before-stop line lines e)),
        file-named (has_tuple before) line e (first-good before line lines good).0,
        reads-from lines (bundle_file line) rest.0 (none-on (before ++ line ∷ []) lines (push-file before line e) (first-good before line lines good).1) rest.1,
      ),
    )
    by false e rest = (
      subst EachSpelled (sym (before-more line lines e)) (line_is_spelled (has_tuple before) line e (first-good before line lines good).0, rest.0),
      subst (Tail (line ∷ lines)) (sym (named-more line lines e)) (tail-more line lines (named_files lines) e rest.1),
    )

-- a text without a bad line reads as the tuples of its database
pub bundle-is-spelled : (text : List ℕ) → bad_line text ≡ None → ReadsBundle (lines_of text) (database (lines_of text))
bundle-is-spelled text good =
    let lines : List (List ℕ) = lines_of text in
    let all = spelled [] lines good in
    record {
      local = local_file lines;
      files = named_files lines;
      named = refl;
      read = reads-from lines unnamed_file all.0 (none-on [] lines refl good) all.1;
      are_chosen = refl;
    }
