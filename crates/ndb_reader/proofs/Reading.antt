-- A text that is read line by line.
use Rattle.std.proofs.Common.{◌≡◌, ℕ, ◌+◌, ◌-◌, ◌<◌, ◌≤◌, Bool, true, false, not, ◌&&◌, ◌||◌, cond, List, [], ◌∷◌, ◌++◌, length, take, drop, get_or, refl, sym, ap, ◌∙◌, arith, Option, Some, None, append_assoc, append-nil, length-take}
use Rattle.std.specs.List.{list_any, before_first, suffix_len}
use Rattle.std.specs.Option.{option_map}
use Rattle.std.specs.Prelude.{is_none}
use Rattle.std.proofs.Math.Seq.{drop-append-le, drop-length}
use Rattle.std.proofs.lemmas.List.{at_drop_more, at_drop_all, take_more}
use Rattle.std.proofs.lemmas.List.Folds.{list_any-append}
use Rattle.std.proofs.lemmas.List.Sums.{suffix_len-take_no, suffix_len-take_yes}
use Rattle.net_base.specs.Ndb.{NdbPair}
use Rattle.net_base.specs.NdbText.{is_white, begins, is_empty, pairs_of, starts_tuple, goes_on, going_on, tuples_of, lines_of}
use Rattle.net_base.specs.NdbBundle.{File, unnamed_file, local_file, named_files, file_of, bundle_file, is_file_line, has_tuple, cause, causes_of, least_of_causes, told_line, first_bad, bad_line, reading, database}
use Rattle.formats.proofs.Shared.{one_add, some_none, starts-at, goes_on-at}
use Rattle.ndb_reader.specs.declared.fault.NdbError.{NdbError}
use Rattle.ndb_reader.specs.declared.fault.NdbError.TheVariants.{Memory, Bad}
use Rattle.ndb_reader.specs.Told.{Tells}
use Rattle.ndb_reader.specs.Filed.{tuple_of}

-- the tuples of what is left, where a tuple of these lines goes on
abbrev pub resumed : List (List NdbPair) → List (List ℕ) → List (List (List NdbPair))
resumed [] lines = tuples_of lines
resumed (pairs ∷ last) lines = ((pairs ∷ last) ++ going_on lines) ∷ tuples_of lines

-- the file of what is left, where one with this name and these tuples grows
abbrev pub grown : List ℕ → List (List (List NdbPair)) → List (List NdbPair) → List (List ℕ) → File
grown name whole last lines = record { name = name; tuples = whole ++ resumed last (before_first is_file_line lines) }

-- a file with this name and these tuples
abbrev pub closed_by : List ℕ → List (List (List NdbPair)) → List (List NdbPair) → File
closed_by name whole last = record { name = name; tuples = whole ++ tuple_of last }

-- the files of a text
abbrev pub all_files : List (List ℕ) → List File
all_files lines = local_file lines ∷ named_files lines

-- what holds once n lines are read
pub record Read (lines : List (List ℕ)) (n : ℕ) (closed : List File) (name : List ℕ) (whole : List (List (List NdbPair))) (last : List (List NdbPair)) : Type 0 where
  pub causes : first_bad causes_of [] lines ≡ first_bad causes_of (take n lines) (drop n lines)
  pub begun : has_tuple (take n lines) ≡ not (is_empty last)
  pub files : all_files lines ≡ closed ++ grown name whole last (drop n lines) ∷ named_files (drop n lines)

-- the next line
pub record Next (lines : List (List ℕ)) (n : ℕ) (line : List ℕ) : Type 0 where
  pub within : n < length lines
  pub is : line ≡ get_or lines n line

pub read-none : (lines : List (List ℕ)) → Read lines 0 [] unnamed_file [] []
read-none lines = record { causes = refl; begun = refl; files = refl }

left : {X : Type 0} (F : List (List ℕ) → X) (lines : List (List ℕ)) (n : ℕ) (line : List ℕ) → Next lines n line → F (drop n lines) ≡ F (line ∷ drop (n + 1) lines)
left F lines n line next = at_drop_more F lines n line next.within ∙ ap (λ (l : List ℕ). F (l ∷ drop (n + 1) lines)) (sym next.is)

passed : (lines : List (List ℕ)) (n : ℕ) (line : List ℕ) → Next lines n line → take (n + 1) lines ≡ take n lines ++ line ∷ []
passed lines n line next = take_more lines n line next.within ∙ ap (λ (l : List ℕ). take n lines ++ l ∷ []) (sym next.is)

-- What is told at the next line.

pub causes-next : (lines : List (List ℕ)) (n : ℕ) (closed : List File) (name : List ℕ) (whole : List (List (List NdbPair))) (last : List (List NdbPair)) (line : List ℕ) → Read lines n closed name whole last → Next lines n line → first_bad causes_of [] lines ≡ told_line (n + 1) (least_of_causes (causes_of (not (is_empty last)) line)) (first_bad causes_of (take (n + 1) lines) (drop (n + 1) lines))
causes-next lines n closed name whole last line r next =
    let rest : List (List ℕ) = drop (n + 1) lines in
    let before : List (List ℕ) = take n lines in
    let len : length before ≡ n = omega (arith, length-take n lines, next.within) in
    r.causes
    ∙ (left (first_bad causes_of before) lines n line next
    ∙ (ap (λ (k : ℕ). told_line (k + 1) (least_of_causes (causes_of (has_tuple before) line)) (first_bad causes_of (before ++ line ∷ []) rest)) len
    ∙ (ap (λ (has : Bool). told_line (n + 1) (least_of_causes (causes_of has line)) (first_bad causes_of (before ++ line ∷ []) rest)) r.begun
    ∙ ap (λ (passed : List (List ℕ)). told_line (n + 1) (least_of_causes (causes_of (not (is_empty last)) line)) (first_bad causes_of passed rest)) (sym (passed lines n line next)))))

pub read-bad : (lines : List (List ℕ)) (n : ℕ) (closed : List File) (name : List ℕ) (whole : List (List (List NdbPair))) (last : List (List NdbPair)) (line : List ℕ) (c : ℕ) → Read lines n closed name whole last → Next lines n line → least_of_causes (causes_of (not (is_empty last)) line) ≡ Some c → first_bad causes_of [] lines ≡ Some (n + 1, c)
read-bad lines n closed name whole last line c r next h =
    causes-next lines n closed name whole last line r next
    ∙ ap (λ (o : Option ℕ). told_line (n + 1) o (first_bad causes_of (take (n + 1) lines) (drop (n + 1) lines))) h

causes-good : (lines : List (List ℕ)) (n : ℕ) (closed : List File) (name : List ℕ) (whole : List (List (List NdbPair))) (last : List (List NdbPair)) (line : List ℕ) → Read lines n closed name whole last → Next lines n line → least_of_causes (causes_of (not (is_empty last)) line) ≡ None → first_bad causes_of [] lines ≡ first_bad causes_of (take (n + 1) lines) (drop (n + 1) lines)
causes-good lines n closed name whole last line r next h =
    causes-next lines n closed name whole last line r next
    ∙ ap (λ (o : Option ℕ). told_line (n + 1) o (first_bad causes_of (take (n + 1) lines) (drop (n + 1) lines))) h

-- Whether the file that grows has a tuple.

here : (lines : List (List ℕ)) (n : ℕ) (line : List ℕ) (b : Bool) → Next lines n line → is_file_line line ≡ b → is_file_line (get_or lines (n + 1 - 1) line) ≡ b
here lines n line b next e =
    let same : n + 1 - 1 ≡ n = omega arith in
    ap (λ k. is_file_line (get_or lines k line)) same ∙ ap is_file_line (sym next.is) ∙ e

-- a line that begins a file has no tuple before it
pub has-file : (lines : List (List ℕ)) (n : ℕ) (line : List ℕ) → Next lines n line → is_file_line line ≡ true → has_tuple (take (n + 1) lines) ≡ false
has-file lines n line next file =
    let none : suffix_len (λ x. not (is_file_line x)) (take (n + 1) lines) ≡ 0 =
    suffix_len-take_no (λ x. not (is_file_line x)) lines (n + 1) line (omega arith) (omega (arith, next.within)) (ap not (here lines n line true next file)) in
    let all : length (take (n + 1) lines) - suffix_len (λ x. not (is_file_line x)) (take (n + 1) lines) ≡ length (take (n + 1) lines) = omega (arith, none) in
    ap (λ k. list_any starts_tuple (drop k (take (n + 1) lines))) all ∙ ap (list_any starts_tuple) (drop-length (take (n + 1) lines))

-- another line may start a tuple
pub has-line : (lines : List (List ℕ)) (n : ℕ) (line : List ℕ) → Next lines n line → is_file_line line ≡ false → has_tuple (take (n + 1) lines) ≡ (has_tuple (take n lines) || (starts_tuple line || false))
has-line lines n line next file =
    let before : List (List ℕ) = take n lines in
    let more : suffix_len (λ x. not (is_file_line x)) (take (n + 1) lines) ≡ 1 + suffix_len (λ x. not (is_file_line x)) (take (n + 1 - 1) lines) =
    suffix_len-take_yes (λ x. not (is_file_line x)) lines (n + 1) line (omega arith) (omega (arith, next.within)) (ap not (here lines n line false next file)) in
    let same : n + 1 - 1 ≡ n = omega arith in
    let len : length before ≡ n = omega (arith, length-take n lines, next.within) in
    let longer : length (take (n + 1) lines) ≡ n + 1 = omega (arith, length-take (n + 1) lines, next.within) in
    let counted : suffix_len (λ x. not (is_file_line x)) (take (n + 1) lines) ≡ 1 + suffix_len (λ x. not (is_file_line x)) before =
    more ∙ ap (λ k. 1 + suffix_len (λ x. not (is_file_line x)) (take k lines)) same in
    let place : length (take (n + 1) lines) - suffix_len (λ x. not (is_file_line x)) (take (n + 1) lines) ≡ length before - suffix_len (λ x. not (is_file_line x)) before =
    omega (arith, counted, len, longer) in
    ap (λ k. list_any starts_tuple (drop k (take (n + 1) lines))) place
    ∙ ap (λ (ls : List (List ℕ)). list_any starts_tuple (drop (length before - suffix_len (λ x. not (is_file_line x)) before) ls)) (passed lines n line next)
    ∙ ap (list_any starts_tuple) (drop-append-le (length before - suffix_len (λ x. not (is_file_line x)) before) before (line ∷ []) (omega arith))
    ∙ list_any-append starts_tuple (drop (length before - suffix_len (λ x. not (is_file_line x)) before) before) (line ∷ [])

begun-next : (lines : List (List ℕ)) (n : ℕ) (closed : List File) (name : List ℕ) (whole : List (List (List NdbPair))) (last : List (List NdbPair)) (line : List ℕ) (s : Bool) → Read lines n closed name whole last → Next lines n line → is_file_line line ≡ false → starts_tuple line ≡ s → has_tuple (take (n + 1) lines) ≡ (not (is_empty last) || (s || false))
begun-next lines n closed name whole last line s r next file e =
    has-line lines n line next file
    ∙ ap (λ (b : Bool). b || (starts_tuple line || false)) r.begun ∙ ap (λ (b : Bool). not (is_empty last) || (b || false)) e

or_nothing : (b : Bool) → (b || (false || false)) ≡ b
or_nothing true = refl
or_nothing false = refl

or_something : (b : Bool) → (b || (true || false)) ≡ true
or_something true = refl
or_something false = refl

-- the tuples of what is left, by the kind of the next line
abbrev resumed_by : List (List NdbPair) → List NdbPair → List (List ℕ) → Bool → Bool → List (List (List NdbPair))
resumed_by [] pairs rest s g = cond s ((pairs ∷ going_on rest) ∷ tuples_of rest) (tuples_of rest)
resumed_by (p ∷ ps) pairs rest s g =
    ((p ∷ ps) ++ cond s [] (cond g (pairs ∷ going_on rest) (going_on rest))) ∷ cond s ((pairs ∷ going_on rest) ∷ tuples_of rest) (tuples_of rest)

resumed-cons : (last : List (List NdbPair)) (line : List ℕ) (rest : List (List ℕ)) → resumed last (line ∷ rest) ≡ resumed_by last (pairs_of line) rest (starts_tuple line) (goes_on line)
resumed-cons [] line rest = refl
resumed-cons (p ∷ ps) line rest = refl

-- The files.

pub before-more : (line : List ℕ) (lines : List (List ℕ)) → is_file_line line ≡ false → before_first is_file_line (line ∷ lines) ≡ line ∷ before_first is_file_line lines
before-more line lines e = rw (e, one_add) refl

pub before-stop : (line : List ℕ) (lines : List (List ℕ)) → is_file_line line ≡ true → before_first is_file_line (line ∷ lines) ≡ []
before-stop line lines e = rw e refl

pub named-more : (line : List ℕ) (lines : List (List ℕ)) → is_file_line line ≡ false → named_files (line ∷ lines) ≡ named_files lines
named-more line lines e = ap (λ b. cond b (file_of (bundle_file line) lines ∷ named_files lines) (named_files lines)) e

pub named-stop : (line : List ℕ) (lines : List (List ℕ)) → is_file_line line ≡ true → named_files (line ∷ lines) ≡ file_of (bundle_file line) lines ∷ named_files lines
named-stop line lines e = ap (λ b. cond b (file_of (bundle_file line) lines ∷ named_files lines) (named_files lines)) e

files-next : (lines : List (List ℕ)) (n : ℕ) (closed : List File) (name : List ℕ) (whole : List (List (List NdbPair))) (last : List (List NdbPair)) (line : List ℕ) (s g : Bool) → Read lines n closed name whole last → Next lines n line → is_file_line line ≡ false → starts_tuple line ≡ s → goes_on line ≡ g
    → all_files lines ≡ closed ++ record { name = name; tuples = whole ++ resumed_by last (pairs_of line) (before_first is_file_line (drop (n + 1) lines)) s g } ∷ named_files (drop (n + 1) lines)
files-next lines n closed name whole last line s g r next file es eg =
    let rest : List (List ℕ) = drop (n + 1) lines in
    let ahead : List (List ℕ) = before_first is_file_line rest in
    r.files
    ∙ left (λ (ls : List (List ℕ)). closed ++ grown name whole last ls ∷ named_files ls) lines n line next
    ∙ ap (λ (fs : List File). closed ++ grown name whole last (line ∷ rest) ∷ fs) (named-more line rest file)
    ∙ ap (λ (ts : List (List (List NdbPair))). closed ++ record { name = name; tuples = whole ++ ts } ∷ named_files rest)
    (ap (resumed last) (before-more line rest file) ∙ resumed-cons last line ahead
    ∙ ap (λ (b : Bool). resumed_by last (pairs_of line) ahead b (goes_on line)) es
    ∙ ap (λ (b : Bool). resumed_by last (pairs_of line) ahead s b) eg)

resumed-blank : (last : List (List NdbPair)) (pairs : List NdbPair) (rest : List (List ℕ)) → resumed_by last pairs rest false false ≡ resumed last rest
resumed-blank [] pairs rest = refl
resumed-blank (p ∷ ps) pairs rest = refl

resumed-start : (whole : List (List (List NdbPair))) (last : List (List NdbPair)) (pairs : List NdbPair) (rest : List (List ℕ)) → whole ++ resumed_by last pairs rest true false ≡ (whole ++ tuple_of last) ++ resumed (pairs ∷ []) rest
resumed-start whole [] pairs rest = sym (ap (λ (ts : List (List (List NdbPair))). ts ++ resumed (pairs ∷ []) rest) (append-nil whole))
resumed-start whole (p ∷ ps) pairs rest =
    ap (λ (tuple : List (List NdbPair)). whole ++ tuple ∷ resumed (pairs ∷ []) rest) (append-nil (p ∷ ps))
    ∙ sym (append_assoc whole ((p ∷ ps) ∷ []) (resumed (pairs ∷ []) rest))

tuples_are : (closed rest : List File) (name : List ℕ) (ts us : List (List (List NdbPair))) → ts ≡ us → closed ++ record { name = name; tuples = ts } ∷ rest ≡ closed ++ record { name = name; tuples = us } ∷ rest
tuples_are closed rest name ts us e = ap (λ (tuples : List (List (List NdbPair))). closed ++ record { name = name; tuples = tuples } ∷ rest) e

-- a line without words
pub read-blank : (lines : List (List ℕ)) (n : ℕ) (closed : List File) (name : List ℕ) (whole : List (List (List NdbPair))) (last : List (List NdbPair)) (line : List ℕ) → Read lines n closed name whole last → Next lines n line → is_file_line line ≡ false → least_of_causes (causes_of (not (is_empty last)) line) ≡ None → is_empty (pairs_of line) ≡ true → Read lines (n + 1) closed name whole last
read-blank lines n closed name whole last line r next file good blank =
    let s : starts_tuple line ≡ false = starts-at line true _ blank refl in
    let g : goes_on line ≡ false = goes_on-at line true _ blank refl in
    record {
      causes = causes-good lines n closed name whole last line r next good;
      begun = begun-next lines n closed name whole last line false r next file s ∙ or_nothing _;
      files = files-next lines n closed name whole last line false false r next file s g
          ∙ tuples_are closed (named_files (drop (n + 1) lines)) name _ _ (ap (λ (ts : List (List (List NdbPair))). whole ++ ts) (resumed-blank last (pairs_of line) (before_first is_file_line (drop (n + 1) lines))));
    }

cause-first : (b : Bool) (causes : List ℕ) → b ≡ true → least_of_causes (cause 1 b ++ causes) ≡ None → ⊥
cause-first true causes e h = some_none h
cause-first false causes e h = cc

-- a line that goes on with a tuple
pub read-on : (lines : List (List ℕ)) (n : ℕ) (closed : List File) (name : List ℕ) (whole : List (List (List NdbPair))) (last : List (List NdbPair)) (line : List ℕ) → Read lines n closed name whole last → Next lines n line → is_file_line line ≡ false → least_of_causes (causes_of (not (is_empty last)) line) ≡ None → is_empty (pairs_of line) ≡ false → begins is_white line ≡ true → Read lines (n + 1) closed name whole (last ++ pairs_of line ∷ [])
read-on lines n closed name whole [] line r next file good words white =
    absurd (cause-first (goes_on line && not false) _ (ap (λ b. b && not false) (goes_on-at line false true words white)) good)
read-on lines n closed name whole (p ∷ ps) line r next file good words white =
    let s : starts_tuple line ≡ false = starts-at line false true words white in
    let g : goes_on line ≡ true = goes_on-at line false true words white in
    let ahead : List (List ℕ) = before_first is_file_line (drop (n + 1) lines) in
    record {
      causes = causes-good lines n closed name whole (p ∷ ps) line r next good;
      begun = begun-next lines n closed name whole (p ∷ ps) line false r next file s;
      files = files-next lines n closed name whole (p ∷ ps) line false true r next file s g
          ∙ tuples_are closed (named_files (drop (n + 1) lines)) name _ _ (ap (λ (tuple : List (List NdbPair)). whole ++ tuple ∷ tuples_of ahead) (sym (append_assoc (p ∷ ps) (pairs_of line ∷ []) (going_on ahead))));
    }

-- a line that starts a tuple
pub read-start : (lines : List (List ℕ)) (n : ℕ) (closed : List File) (name : List ℕ) (whole : List (List (List NdbPair))) (last : List (List NdbPair)) (line : List ℕ) → Read lines n closed name whole last → Next lines n line → is_file_line line ≡ false → least_of_causes (causes_of (not (is_empty last)) line) ≡ None → is_empty (pairs_of line) ≡ false → begins is_white line ≡ false → Read lines (n + 1) closed name (whole ++ tuple_of last) (pairs_of line ∷ [])
read-start lines n closed name whole last line r next file good words white =
    let s : starts_tuple line ≡ true = starts-at line false false words white in
    let g : goes_on line ≡ false = goes_on-at line false false words white in
    record {
      causes = causes-good lines n closed name whole last line r next good;
      begun = begun-next lines n closed name whole last line true r next file s ∙ or_something _;
      files = files-next lines n closed name whole last line true false r next file s g
          ∙ tuples_are closed (named_files (drop (n + 1) lines)) name _ _ (resumed-start whole last (pairs_of line) (before_first is_file_line (drop (n + 1) lines)));
    }

resumed-none : (last : List (List NdbPair)) → resumed last [] ≡ tuple_of last
resumed-none [] = refl
resumed-none (p ∷ ps) = ap (λ (tuple : List (List NdbPair)). tuple ∷ []) (append-nil (p ∷ ps))

-- a line that begins a file
pub read-file : (lines : List (List ℕ)) (n : ℕ) (closed : List File) (name : List ℕ) (whole : List (List (List NdbPair))) (last : List (List NdbPair)) (line : List ℕ) → Read lines n closed name whole last → Next lines n line → is_file_line line ≡ true → least_of_causes (causes_of (not (is_empty last)) line) ≡ None → Read lines (n + 1) (closed ++ closed_by name whole last ∷ []) (bundle_file line) [] []
read-file lines n closed name whole last line r next file good =
    let rest : List (List ℕ) = drop (n + 1) lines in
    record {
      causes = causes-good lines n closed name whole last line r next good;
      begun = has-file lines n line next file;
      files = r.files
          ∙ left (λ (ls : List (List ℕ)). closed ++ grown name whole last ls ∷ named_files ls) lines n line next
          ∙ ap (λ (fs : List File). closed ++ grown name whole last (line ∷ rest) ∷ fs) (named-stop line rest file)
          ∙ tuples_are closed (file_of (bundle_file line) rest ∷ named_files rest) name _ _ (ap (λ (ts : List (List (List NdbPair))). whole ++ ts) (ap (resumed last) (before-stop line rest file) ∙ resumed-none last))
          ∙ sym (append_assoc closed (closed_by name whole last ∷ []) (file_of (bundle_file line) rest ∷ named_files rest));
    }

-- all lines
pub read-all : (lines : List (List ℕ)) (n : ℕ) (closed : List File) (name : List ℕ) (whole : List (List (List NdbPair))) (last : List (List NdbPair)) → Read lines n closed name whole last → n ≡ length lines → (first_bad causes_of [] lines ≡ None) × (all_files lines ≡ closed ++ closed_by name whole last ∷ [])
read-all lines n closed name whole last r all =
    let end : length lines ≤ n = omega (arith, all) in (
      r.causes ∙ at_drop_all (first_bad causes_of (take n lines)) lines n end,
      r.files ∙ at_drop_all (λ (ls : List (List ℕ)). closed ++ grown name whole last ls ∷ named_files ls) lines n end
          ∙ tuples_are closed [] name _ _ (ap (λ (ts : List (List (List NdbPair))). whole ++ ts) (resumed-none last)),
    )

-- an error that tells of a line tells of the text
pub tells-of : (e : NdbError) (m : ℕ) (o : Option ℕ) (bad : Option (ℕ × ℕ)) → Tells e (option_map (λ (c : ℕ). (m, c)) o) → ((c : ℕ) → o ≡ Some c → bad ≡ Some (m, c)) → Tells e bad
tells-of Memory m o bad h f = tt
tells-of (Bad line cause) m None bad h f = absurd (some_none (sym h))
tells-of (Bad line cause) m (Some c) bad h f = f c refl ∙ h

-- what a text without a bad line reads as
pub reading-is : (text : List ℕ) → bad_line text ≡ None → reading text ≡ Some (database (lines_of text))
reading-is text h = ap (λ (o : Option (ℕ × ℕ)). cond (is_none o) (Some (database (lines_of text))) None) h
