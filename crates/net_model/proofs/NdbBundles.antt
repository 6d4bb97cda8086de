-- A bundle that is spelled by tuples has no bad line and reads as them.
use Rattle.std.proofs.Common.{◌≡◌, ℕ, ◌+◌, ◌⊎◌, inl, inr, Bool, true, false, not, ◌&&◌, List, [], ◌∷◌, ◌++◌, refl, sym, ap, subst, ◌∙◌, arith, Option, Some, None, append-nil}
use Rattle.std.specs.Prelude.{codes}
use Rattle.std.specs.List.{list_any, before_first}
use Rattle.std.proofs.lemmas.Bool.{or_parts, or_left, or_right}
use Rattle.net_base.specs.Ndb.{NdbPair}
use Rattle.net_base.specs.NdbText.{is_empty, lines_of, pairs_of, starts_tuple, goes_on, tuples_of}
use Rattle.net_base.specs.NdbBundle.{File, file_of, is_file_line, named_files, has_tuple, cause, causes_of, told_line, first_bad, bad_line, chosen, reading, database}
use Rattle.formats.specs.NdbSpelling.{ReadsTuples, ReadsFiles, ReadsBundle, IsFileName}
use Rattle.formats.proofs.Shared.{or_false, some_none, before_first-none, line_reads, cons_none, some_once, starts-at, goes_on-at, line_has_no_cause, tuples_read, begins_no_file, and_not_true}
use Rattle.ndb_reader.proofs.Shared.{before-more, before-stop, named-more, named-stop, reading-is, bundle-is-spelled, push-line}
use Rattle.world_text.proofs.Shared.{good-more}

-- Lines that begin a file.

file-begins : (name : List ℕ) → IsFileName name → is_file_line (codes "%file " ++ name) ≡ true
file-begins [] n = absurd (omega (arith, n.some))
file-begins (b ∷ bytes) n = ap not n.white

two-causes : (zero file : Bool) → zero ≡ false → file ≡ true → cause 5 zero ++ cause 6 (not file) ≡ []
two-causes zero file ez ef = rw (ez, ef) refl

file-good : (has : Bool) (name : List ℕ) → IsFileName name → causes_of has (codes "%file " ++ name) ≡ []
file-good has name n = two-causes _ (is_file_line (codes "%file " ++ name)) n.zero (file-begins name n)

-- Whether a file has a tuple before the next line.

-- a tuple stands before in this file, or no line goes on with one
abbrev Begun : List (List ℕ) → List (List NdbPair) → Type 0
Begun before more = (has_tuple before ≡ true) ⊎ (more ≡ [])

-- No line is bad.

-- lines that read as tuples, before others that are good whatever stands before them
good-lines : (before front tail : List (List ℕ)) (more : List (List NdbPair)) (tuples : List (List (List NdbPair))) → Begun before more → ReadsTuples front more tuples → ((passed : List (List ℕ)) → first_bad causes_of passed tail ≡ None) → first_bad causes_of before (front ++ tail) ≡ None
good-lines before [] tail more tuples begun r rest = rest before
good-lines before (line ∷ front) tail more tuples begun (inl (r, others)) rest =
    let g : goes_on line ≡ false = goes_on-at line true _ (ap is_empty (line_reads line [] r)) refl in
    good-more before line (front ++ tail) (line_has_no_cause (has_tuple before) line [] (ap (λ (b : Bool). b && not (has_tuple before)) g) r)
    (good-lines (before ++ line ∷ []) front tail more tuples (on begun) others rest)
  where
    on : Begun before more → Begun (before ++ line ∷ []) more
    on (inl some) = inl (push-line before line (begins_no_file line [] r) ∙ or_left _ _ some)
    on (inr none) = inr none
good-lines before (line ∷ front) tail more tuples (inr none) (inr (inl (pair, pairs, left, m, white, r, others))) rest =
    absurd (cons_none (sym m ∙ none))
good-lines before (line ∷ front) tail more tuples (inl some) (inr (inl (pair, pairs, left, m, white, r, others))) rest =
    good-more before line (front ++ tail) (line_has_no_cause (has_tuple before) line (pair ∷ pairs) (and_not_true (goes_on line) (has_tuple before) some) r)
    (good-lines (before ++ line ∷ []) front tail left tuples (inl (push-line before line (begins_no_file line (pair ∷ pairs) r) ∙ or_left _ _ some)) others rest)
good-lines before (line ∷ front) tail more tuples begun (inr (inr (pair, pairs, left, behind, m, t, white, r, others))) rest =
    let words : is_empty (pairs_of line) ≡ false = ap is_empty (line_reads line (pair ∷ pairs) r) in
    let g : goes_on line ≡ false = goes_on-at line false false words white in
    let s : starts_tuple line ≡ true = starts-at line false false words white in
    good-more before line (front ++ tail) (line_has_no_cause (has_tuple before) line (pair ∷ pairs) (ap (λ (b : Bool). b && not (has_tuple before)) g) r)
    (good-lines (before ++ line ∷ []) front tail left behind
    (inl (push-line before line (begins_no_file line (pair ∷ pairs) r) ∙ or_right (has_tuple before) _ (or_left (starts_tuple line) false s))) others rest)

good-files : (lines : List (List ℕ)) (file : File) (files : List File) (before : List (List ℕ)) → ReadsFiles lines file files → first_bad causes_of before lines ≡ None
good-files lines file [] before r =
    ap (first_bad causes_of before) (sym (append-nil lines)) ∙ good-lines before lines [] [] file.tuples (inr refl) r (λ passed. refl)
good-files lines file (next ∷ files) before (front, rest, is, named, r, others) =
    ap (first_bad causes_of before) is
    ∙ good-lines before front ((codes "%file " ++ next.name) ∷ rest) [] file.tuples (inr refl) r
    (λ passed. good-more passed (codes "%file " ++ next.name) rest (file-good (has_tuple passed) next.name named)
    (good-files rest next files (passed ++ (codes "%file " ++ next.name) ∷ []) others))

-- The files.

none-begins : (lines : List (List ℕ)) (more : List (List NdbPair)) (tuples : List (List (List NdbPair))) → ReadsTuples lines more tuples → list_any is_file_line lines ≡ false
none-begins [] more tuples r = refl
none-begins (line ∷ lines) more tuples (inl (r, others)) = or_false _ _ (begins_no_file line [] r) (none-begins lines more tuples others)
none-begins (line ∷ lines) more tuples (inr (inl (pair, pairs, left, m, white, r, others))) =
    or_false _ _ (begins_no_file line (pair ∷ pairs) r) (none-begins lines left tuples others)
none-begins (line ∷ lines) more tuples (inr (inr (pair, pairs, left, behind, m, t, white, r, others))) =
    or_false _ _ (begins_no_file line (pair ∷ pairs) r) (none-begins lines left behind others)

before-file : (front rest : List (List ℕ)) (line : List ℕ) → list_any is_file_line front ≡ false → is_file_line line ≡ true → before_first is_file_line (front ++ line ∷ rest) ≡ front
before-file [] rest line none file = before-stop line rest file
before-file (l ∷ front) rest line none file =
    let parts = or_parts (is_file_line l) (list_any is_file_line front) none in
    before-more l (front ++ line ∷ rest) parts.0 ∙ ap (λ (ls : List (List ℕ)). l ∷ ls) (before-file front rest line parts.1 file)

named-behind : (front rest : List (List ℕ)) → list_any is_file_line front ≡ false → named_files (front ++ rest) ≡ named_files rest
named-behind [] rest none = refl
named-behind (l ∷ front) rest none =
    let parts = or_parts (is_file_line l) (list_any is_file_line front) none in
    named-more l (front ++ rest) parts.0 ∙ named-behind front rest parts.1

file-is : (name : List ℕ) (tuples : List (List (List NdbPair))) (file : File) → file.name ≡ name → tuples ≡ file.tuples → record { name = name; tuples = tuples } ≡ file
file-is name tuples file en et =
    let F : List ℕ → List (List (List NdbPair)) → File = λ n ts. record { name = n; tuples = ts } in
    ap (λ (n : List ℕ). F n tuples) (sym en) ∙ ap (F file.name) et

-- the tuples of the first file, and the files behind it
abbrev Holds : List (List ℕ) → File → List File → Type 0
Holds lines file files = (tuples_of (before_first is_file_line lines) ≡ file.tuples) × (named_files lines ≡ files)

files-read : (lines : List (List ℕ)) (file : File) (files : List File) → ReadsFiles lines file files → Holds lines file files
files-read lines file [] r =
    let none = none-begins lines [] file.tuples r in (
      ap tuples_of (before_first-none is_file_line lines none) ∙ (tuples_read lines [] file.tuples r).1,
      ap named_files (sym (append-nil lines)) ∙ named-behind lines [] none,
    )
files-read lines file (next ∷ files) (front, rest, is, named, r, others) =
    let line : List ℕ = codes "%file " ++ next.name in
    let begin : is_file_line line ≡ true = file-begins next.name named in
    let none = none-begins front [] file.tuples r in
    let more = files-read rest next files others in (
      ap (λ (ls : List (List ℕ)). tuples_of (before_first is_file_line ls)) is
          ∙ (ap tuples_of (before-file front rest line none begin) ∙ (tuples_read front [] file.tuples r).1),
      ap named_files is
          ∙ (named-behind front (line ∷ rest) none
          ∙ (named-stop line rest begin
          ∙ (ap (λ (f : File). f ∷ named_files rest) (file-is next.name (tuples_of (before_first is_file_line rest)) next refl more.0)
          ∙ ap (λ (fs : List File). next ∷ fs) more.1))),
    )

-- Texts.

pub bundle_reads : (text : List ℕ) (tuples : List (List (List NdbPair))) → ReadsBundle (lines_of text) tuples → reading text ≡ Some tuples
bundle_reads text tuples r =
    let lines : List (List ℕ) = lines_of text in
    let held = files-read lines r.local r.files r.read in
    let first : file_of r.local.name lines ≡ r.local = file-is r.local.name (tuples_of (before_first is_file_line lines)) r.local refl held.0 in
    reading-is text (good-files lines r.local r.files [] r.read)
    ∙ ap (λ (ts : List (List (List NdbPair))). Some ts)
    (ap (λ (name : List ℕ). chosen (file_of name lines) (named_files lines)) (sym r.named)
    ∙ (ap (λ (f : File). chosen f (named_files lines)) first
    ∙ (ap (chosen r.local) held.1 ∙ sym r.are_chosen)))

pub good-if : (text : List ℕ) (tuples : List (List (List NdbPair))) (bad : Option (ℕ × ℕ)) → bad_line text ≡ bad → reading text ≡ Some tuples → bad_line text ≡ None
good-if text tuples None e h = e
good-if text tuples (Some told_line) e h = absurd (some_none (sym h ∙ rw e refl))

pub bundle_spelled : (text : List ℕ) (tuples : List (List (List NdbPair))) → reading text ≡ Some tuples → ReadsBundle (lines_of text) tuples
bundle_spelled text tuples h =
    let good = good-if text tuples (bad_line text) refl h in
    let same : database (lines_of text) ≡ tuples = some_once (reading text) (database (lines_of text)) tuples (reading-is text good) h in
    subst (λ (ts : List (List (List NdbPair))). ReadsBundle (lines_of text) ts) same (bundle-is-spelled text good)
