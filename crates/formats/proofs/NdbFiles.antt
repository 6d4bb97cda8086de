-- What the lines of a file are spelled as is what they read as.
use Rattle.std.proofs.Common.{◌≡◌, ℕ, ◌+◌, ◌⊎◌, inl, inr, Bool, true, false, not, ◌&&◌, ◌||◌, cond, List, [], ◌∷◌, ◌++◌, map, length, refl, sym, ap, subst, ◌∙◌, Option, Some, None}
use Rattle.std.specs.Prelude.{codes, nat_eq}
use Rattle.std.proofs.lemmas.Bool.Decides.{nat_tests}
use Rattle.std.proofs.Common.{arith}
use Rattle.std.specs.List.{list_any}
use Rattle.std.proofs.lemmas.List.Folds.{list_any-append}
use Rattle.std.proofs.lemmas.Bool.{or_left, or_right}
use Rattle.net_base.specs.Ndb.{NdbPair}
use Rattle.net_base.specs.NdbText.{is_white, is_percent, begins, begins_with, is_empty, lines_of, Word, words_behind, words_of, word_pair, pairs_of, starts_tuple, goes_on, going_on, tuples_of}
use Rattle.net_base.specs.NdbBundle.{is_file_line, is_nameless, has_tuple, cause, causes_of, least_of_causes, told_line, first_bad, bad_line}
use Rattle.formats.specs.NdbSpelling.{ReadsWords, ReadsLine, ReadsTuples, ReadsFile}
use Rattle.formats.proofs.NdbPlain.{or_false, or_false_first, or_false_rest}
use Rattle.formats.proofs.NdbLists.{after_last-none, some_none}
use Rattle.formats.proofs.NdbSound.{Faultless, sound, line_reads}
use Rattle.formats.proofs.NdbComplete.{complete, cons_none, false_true}
use Rattle.net_base.proofs.Shared.{and_none}

-- Lines.

no-causes : (a b c d e f : Bool) → a ≡ false → b ≡ false → c ≡ false → d ≡ false → e ≡ false → f ≡ false → cause 1 a ++ (cause 2 b ++ (cause 3 c ++ (cause 4 d ++ (cause 5 e ++ cause 6 f)))) ≡ []
no-causes a b c d e f ea eb ec ed ee ef = rw (ea, eb, ec, ed, ee, ef) refl

-- the tests of a line's words, where it doesn't begin with `%`
words_test : (p : Word → Bool) (line : List ℕ) → begins is_percent line ≡ false → list_any p (words_of line) ≡ list_any p (words_behind 0 line)
words_test p line e = ap (λ (b : Bool). list_any p (cond b [] (words_behind 0 line))) e

pub line_has_no_cause : (has : Bool) (line : List ℕ) (pairs : List NdbPair) → (goes_on line && not has) ≡ false → ReadsLine line pairs → causes_of has line ≡ []
line_has_no_cause has line pairs alone r =
    let f = (sound line pairs r.words).faultless in
    no-causes _ _ _ _ _ _ alone (words_test (λ (word : Word). word.unclosed) line r.percent ∙ f.unclosed) (words_test is_nameless line r.percent ∙ f.nameless)
    (words_test (λ (word : Word). word.followed) line r.percent ∙ f.followed) r.zero (ap (λ (b : Bool). b && not (is_file_line line)) r.percent)

pub cause-none : (n : ℕ) (b : Bool) (rest : List ℕ) → cause n b ++ rest ≡ [] → (b ≡ false) × (rest ≡ [])
cause-none n true rest h = absurd (cons_none h)
cause-none n false rest h = (refl, h)

pub and_not : (p f : Bool) → f ≡ false → (p && not f) ≡ false → p ≡ false
and_not false f e h = refl
and_not true false e h = h
and_not true true e h = e

pub cause-alone : (n : ℕ) (b : Bool) → cause n b ≡ [] → b ≡ false
cause-alone n true h = absurd (cons_none h)
cause-alone n false h = refl

-- a line without a cause that begins no file doesn't begin with `%`
not_percent : (has : Bool) (line : List ℕ) → is_file_line line ≡ false → causes_of has line ≡ [] → begins is_percent line ≡ false
not_percent has line file h =
    let one = cause-none 1 _ _ h in
    let two = cause-none 2 _ _ one.1 in
    let three = cause-none 3 _ _ two.1 in
    let four = cause-none 4 _ _ three.1 in
    let five = cause-none 5 _ _ four.1 in
    and_not (begins is_percent line) (is_file_line line) file (cause-alone 6 _ five.1)

pub not_alone : (has : Bool) (line : List ℕ) → causes_of has line ≡ [] → (goes_on line && not has) ≡ false
not_alone has line h = (cause-none 1 _ _ h).0

pub line_is_spelled : (has : Bool) (line : List ℕ) → is_file_line line ≡ false → causes_of has line ≡ [] → ReadsLine line (pairs_of line)
line_is_spelled has line file h =
    let e = not_percent has line file h in
    let one = cause-none 1 _ _ h in
    let two = cause-none 2 _ _ one.1 in
    let three = cause-none 3 _ _ two.1 in
    let four = cause-none 4 _ _ three.1 in
    let five = cause-none 5 _ _ four.1 in
    let f : Faultless (words_behind 0 line) = record {
      unclosed = sym (words_test (λ (word : Word). word.unclosed) line e) ∙ two.0;
      nameless = sym (words_test is_nameless line e) ∙ three.0;
      followed = sym (words_test (λ (word : Word). word.followed) line e) ∙ four.0;
    } in
    let same : pairs_of line ≡ map word_pair (words_behind 0 line) = ap (λ (b : Bool). map word_pair (cond b [] (words_behind 0 line))) e in
    record { zero = five.0; percent = e; words = subst (λ (ps : List NdbPair). ReadsWords line ps) (sym same) (complete (words_behind 0 line) line refl f) }

-- Files.

pub is_empty-map : {X Y : Type 0} (f : X → Y) (xs : List X) → is_empty (map f xs) ≡ is_empty xs
is_empty-map f [] = refl
is_empty-map f (x ∷ xs) = refl

-- the kind of a line, by its pairs and its first byte
pub starts-at : (line : List ℕ) (e w : Bool) → is_empty (pairs_of line) ≡ e → begins is_white line ≡ w → starts_tuple line ≡ (not e && not w)
starts-at line e w he hw =
    ap (λ (b : Bool). not b && not (begins is_white line)) (sym (is_empty-map word_pair (words_of line)) ∙ he) ∙ ap (λ (b : Bool). not e && not b) hw

pub goes_on-at : (line : List ℕ) (e w : Bool) → is_empty (pairs_of line) ≡ e → begins is_white line ≡ w → goes_on line ≡ (not e && w)
goes_on-at line e w he hw =
    ap (λ (b : Bool). not b && begins is_white line) (sym (is_empty-map word_pair (words_of line)) ∙ he) ∙ ap (λ (b : Bool). not e && b) hw

pub going_on-at : (line : List ℕ) (lines : List (List ℕ)) (s g : Bool) → starts_tuple line ≡ s → goes_on line ≡ g → going_on (line ∷ lines) ≡ cond s [] (cond g (pairs_of line ∷ going_on lines) (going_on lines))
going_on-at line lines s g es eg =
    ap (λ (b : Bool). cond b [] (cond (goes_on line) (pairs_of line ∷ going_on lines) (going_on lines))) es
    ∙ ap (λ (b : Bool). cond s [] (cond b (pairs_of line ∷ going_on lines) (going_on lines))) eg

tuples-at : (line : List ℕ) (lines : List (List ℕ)) (s : Bool) → starts_tuple line ≡ s → tuples_of (line ∷ lines) ≡ cond s ((pairs_of line ∷ going_on lines) ∷ tuples_of lines) (tuples_of lines)
tuples-at line lines s es = ap (λ (b : Bool). cond b ((pairs_of line ∷ going_on lines) ∷ tuples_of lines) (tuples_of lines)) es

pub tuples_read : (lines : List (List ℕ)) (more : List (List NdbPair)) (tuples : List (List (List NdbPair))) → ReadsTuples lines more tuples → (going_on lines ≡ more) × (tuples_of lines ≡ tuples)
tuples_read [] more tuples (m, t) = (sym m, sym t)
tuples_read (line ∷ lines) more tuples (inl (r, rest)) =
    let empty : is_empty (pairs_of line) ≡ true = ap is_empty (line_reads line [] r) in
    let s : starts_tuple line ≡ false = starts-at line true _ empty refl in
    let g : goes_on line ≡ false = goes_on-at line true _ empty refl in
    let others = tuples_read lines more tuples rest in
    (going_on-at line lines false false s g ∙ others.0, tuples-at line lines false s ∙ others.1)
tuples_read (line ∷ lines) more tuples (inr (inl (pair, pairs, left, m, white, r, rest))) =
    let is : pairs_of line ≡ pair ∷ pairs = line_reads line (pair ∷ pairs) r in
    let s : starts_tuple line ≡ false = starts-at line false true (ap is_empty is) white in
    let g : goes_on line ≡ true = goes_on-at line false true (ap is_empty is) white in
    let others = tuples_read lines left tuples rest in (
      going_on-at line lines false true s g ∙ (ap (λ (ps : List NdbPair). ps ∷ going_on lines) is ∙ (ap (λ (ls : List (List NdbPair)). (pair ∷ pairs) ∷ ls) others.0 ∙ sym m)),
      tuples-at line lines false s ∙ others.1,
    )
tuples_read (line ∷ lines) more tuples (inr (inr (pair, pairs, left, behind, m, t, white, r, rest))) =
    let is : pairs_of line ≡ pair ∷ pairs = line_reads line (pair ∷ pairs) r in
    let s : starts_tuple line ≡ true = starts-at line false false (ap is_empty is) white in
    let others = tuples_read lines left behind rest in (
      going_on-at line lines true _ s refl ∙ sym m,
      tuples-at line lines true s
          ∙ (ap (λ (ps : List NdbPair). (ps ∷ going_on lines) ∷ tuples_of lines) is
          ∙ (ap (λ (ls : List (List NdbPair)). ((pair ∷ pairs) ∷ ls) ∷ tuples_of lines) others.0
          ∙ (ap (λ (ts : List (List (List NdbPair))). ((pair ∷ pairs) ∷ left) ∷ ts) others.1 ∙ sym t))),
    )

-- the lines of a file read in one way at most
pub file_reads_once : (lines : List (List ℕ)) (ts us : List (List (List NdbPair))) → ReadsFile lines ts → ReadsFile lines us → ts ≡ us
file_reads_once lines ts us t u = sym (tuples_read lines [] ts t).1 ∙ (tuples_read lines [] us u).1

-- each line is spelled
abbrev pub EachSpelled : List (List ℕ) → Type 0
EachSpelled [] = Unit {0}
EachSpelled (line ∷ lines) = ReadsLine line (pairs_of line) × EachSpelled lines

spelled_if : (line : List ℕ) (lines : List (List ℕ)) (ps : List NdbPair) (w : Bool) → pairs_of line ≡ ps → begins is_white line ≡ w → ReadsLine line ps → ReadsTuples lines (going_on lines) (tuples_of lines) → ReadsTuples (line ∷ lines) (going_on (line ∷ lines)) (tuples_of (line ∷ lines))
spelled_if line lines [] w is white r rest =
    let s : starts_tuple line ≡ false = starts-at line true w (ap is_empty is) white in
    let g : goes_on line ≡ false = goes_on-at line true w (ap is_empty is) white in
    inl (
      r,
      subst (λ (ls : List (List NdbPair)). ReadsTuples lines ls (tuples_of (line ∷ lines))) (sym (going_on-at line lines false false s g))
          (subst (λ (ts : List (List (List NdbPair))). ReadsTuples lines (going_on lines) ts) (sym (tuples-at line lines false s)) rest),
    )
spelled_if line lines (p ∷ ps) true is white r rest =
    let s : starts_tuple line ≡ false = starts-at line false true (ap is_empty is) white in
    let g : goes_on line ≡ true = goes_on-at line false true (ap is_empty is) white in
    inr (inl (
      p,
      ps,
      going_on lines,
      going_on-at line lines false true s g ∙ ap (λ (qs : List NdbPair). qs ∷ going_on lines) is,
      white,
      r,
      subst (λ (ts : List (List (List NdbPair))). ReadsTuples lines (going_on lines) ts) (sym (tuples-at line lines false s)) rest,
    ))
spelled_if line lines (p ∷ ps) false is white r rest =
    let s : starts_tuple line ≡ true = starts-at line false false (ap is_empty is) white in
    inr (inr (
      p,
      ps,
      going_on lines,
      tuples_of lines,
      going_on-at line lines true _ s refl,
      tuples-at line lines true s ∙ ap (λ (qs : List NdbPair). (qs ∷ going_on lines) ∷ tuples_of lines) is,
      white,
      r,
      rest,
    ))

pub tuples_spelled : (lines : List (List ℕ)) → EachSpelled lines → ReadsTuples lines (going_on lines) (tuples_of lines)
tuples_spelled [] each = (refl, refl)
tuples_spelled (line ∷ lines) each = spelled_if line lines (pairs_of line) _ refl refl each.0 (tuples_spelled lines each.1)

-- Texts.

pub least-none : (causes : List ℕ) → least_of_causes causes ≡ None → causes ≡ []
least-none [] h = refl
least-none (c ∷ causes) h = absurd (some_none h)

pub told-none : (n : ℕ) (o : Option ℕ) (behind : Option (ℕ × ℕ)) → told_line n o behind ≡ None → (o ≡ None) × (behind ≡ None)
told-none n None behind h = (refl, h)
told-none n (Some c) behind h = absurd (some_none h)

-- what a text without a bad line says of its first line and of the others
pub first-good : (before : List (List ℕ)) (line : List ℕ) (lines : List (List ℕ)) → first_bad causes_of before (line ∷ lines) ≡ None → (causes_of (has_tuple before) line ≡ []) × (first_bad causes_of (before ++ line ∷ []) lines ≡ None)
first-good before line lines h =
    let both = told-none (length before + 1) (least_of_causes (causes_of (has_tuple before) line)) (first_bad causes_of (before ++ line ∷ []) lines) h in
    (least-none _ both.0, both.1)

each_spelled : (before lines : List (List ℕ)) → list_any is_file_line lines ≡ false → first_bad causes_of before lines ≡ None → EachSpelled lines
each_spelled before [] files h = tt
each_spelled before (line ∷ lines) files h =
    let first = first-good before line lines h in (
      line_is_spelled (has_tuple before) line (or_false_first (is_file_line line) (list_any is_file_line lines) files) first.0,
      each_spelled (before ++ line ∷ []) lines (or_false_rest (is_file_line line) (list_any is_file_line lines) files) first.1,
    )

none-last : (p : List ℕ → Bool) (before : List (List ℕ)) (line : List ℕ) → list_any p before ≡ false → p line ≡ false → list_any p (before ++ line ∷ []) ≡ false
none-last p before line h e = list_any-append p before (line ∷ []) ∙ or_false _ _ h (or_false _ _ e refl)

-- no line goes on before one starts a tuple
none_goes_on_if : (line : List ℕ) (lines : List (List ℕ)) (s : Bool) → starts_tuple line ≡ s → goes_on line ≡ false → (s ≡ false → going_on lines ≡ []) → going_on (line ∷ lines) ≡ []
none_goes_on_if line lines true es eg rest = going_on-at line lines true false es eg
none_goes_on_if line lines false es eg rest = going_on-at line lines false false es eg ∙ rest refl

has_none : (before : List (List ℕ)) → list_any is_file_line before ≡ false → list_any starts_tuple before ≡ false → has_tuple before ≡ false
has_none before files none = ap (list_any starts_tuple) (after_last-none is_file_line before files) ∙ none

none_goes_on : (before lines : List (List ℕ)) → list_any is_file_line before ≡ false → list_any starts_tuple before ≡ false → list_any is_file_line lines ≡ false → first_bad causes_of before lines ≡ None → going_on lines ≡ []
none_goes_on before [] f n files h = refl
none_goes_on before (line ∷ lines) f n files h =
    let first = first-good before line lines h in
    let file = or_false_first (is_file_line line) (list_any is_file_line lines) files in
    let alone = not_alone (has_tuple before) line first.0 in
    none_goes_on_if line lines _ refl (and_not (goes_on line) (has_tuple before) (has_none before f n) alone)
    (λ s. none_goes_on (before ++ line ∷ []) lines (none-last is_file_line before line f file) (none-last starts_tuple before line n s) (or_false_rest (is_file_line line) (list_any is_file_line lines) files) first.1)

-- a text without a bad line and with one file is spelled by its tuples
pub file_is_spelled : (text : List ℕ) → list_any is_file_line (lines_of text) ≡ false → bad_line text ≡ None → ReadsFile (lines_of text) (tuples_of (lines_of text))
file_is_spelled text files h =
    subst (λ (more : List (List NdbPair)). ReadsTuples (lines_of text) more (tuples_of (lines_of text))) (none_goes_on [] (lines_of text) refl refl files h)
    (tuples_spelled (lines_of text) (each_spelled [] (lines_of text) files h))

-- what reads as a line of pairs begins no file
pub percent_of_file : (line : List ℕ) → begins is_percent line ≡ false → begins_with (codes "%file ") line ≡ false
percent_of_file [] h = refl
percent_of_file (b ∷ bytes) h =
    let e : nat_eq 37 b ≡ false = grind (arith, nat_tests) in
    rw e refl

pub begins_no_file : (line : List ℕ) (pairs : List NdbPair) → ReadsLine line pairs → is_file_line line ≡ false
begins_no_file line pairs r = rw (percent_of_file line r.percent) refl

good_line : (before : List (List ℕ)) (line : List ℕ) (lines : List (List ℕ)) (pairs : List NdbPair) → (goes_on line && not (has_tuple before)) ≡ false → ReadsLine line pairs → first_bad causes_of (before ++ line ∷ []) lines ≡ None → first_bad causes_of before (line ∷ lines) ≡ None
good_line before line lines pairs alone r rest =
    ap (λ (cs : List ℕ). told_line (length before + 1) (least_of_causes cs) (first_bad causes_of (before ++ line ∷ []) lines)) (line_has_no_cause (has_tuple before) line pairs alone r) ∙ rest

pub and_not_true : (a b : Bool) → b ≡ true → (a && not b) ≡ false
and_not_true a true e = and_none a
and_not_true a false e = absurd (false_true e)

some-last : (p : List ℕ → Bool) (before : List (List ℕ)) (line : List ℕ) → (list_any p before || (p line || false)) ≡ true → list_any p (before ++ line ∷ []) ≡ true
some-last p before line e = list_any-append p before (line ∷ []) ∙ e

has_some : (before : List (List ℕ)) → list_any is_file_line before ≡ false → list_any starts_tuple before ≡ true → has_tuple before ≡ true
has_some before files some = ap (list_any starts_tuple) (after_last-none is_file_line before files) ∙ some

-- a tuple stands before these lines, or none of them goes on with one
abbrev Begun : List (List ℕ) → List (List NdbPair) → Type 0
Begun before more = (list_any starts_tuple before ≡ true) ⊎ (more ≡ [])

begun-blank : (before : List (List ℕ)) (line : List ℕ) (more : List (List NdbPair)) → Begun before more → Begun (before ++ line ∷ []) more
begun-blank before line more (inl e) = inl (some-last starts_tuple before line (or_left _ _ e))
begun-blank before line more (inr e) = inr e

pub good_file : (before lines : List (List ℕ)) (more : List (List NdbPair)) (tuples : List (List (List NdbPair))) → list_any is_file_line before ≡ false → Begun before more → ReadsTuples lines more tuples → first_bad causes_of before lines ≡ None
good_file before [] more tuples files begun r = refl
good_file before (line ∷ lines) more tuples files begun (inl (r, rest)) =
    let g : goes_on line ≡ false = goes_on-at line true _ (ap is_empty (line_reads line [] r)) refl in
    good_line before line lines [] (ap (λ (b : Bool). b && not (has_tuple before)) g) r
    (good_file (before ++ line ∷ []) lines more tuples (none-last is_file_line before line files (begins_no_file line [] r)) (begun-blank before line more begun) rest)
good_file before (line ∷ lines) more tuples files (inr none) (inr (inl (pair, pairs, left, m, white, r, rest))) =
    absurd (cons_none (sym m ∙ none))
good_file before (line ∷ lines) more tuples files (inl some) (inr (inl (pair, pairs, left, m, white, r, rest))) =
    good_line before line lines (pair ∷ pairs) (and_not_true (goes_on line) (has_tuple before) (has_some before files some)) r
    (good_file (before ++ line ∷ []) lines left tuples (none-last is_file_line before line files (begins_no_file line (pair ∷ pairs) r)) (begun-blank before line left (inl some)) rest)
good_file before (line ∷ lines) more tuples files begun (inr (inr (pair, pairs, left, behind, m, t, white, r, rest))) =
    let empty : is_empty (pairs_of line) ≡ false = ap is_empty (line_reads line (pair ∷ pairs) r) in
    let g : goes_on line ≡ false = goes_on-at line false false empty white in
    let s : starts_tuple line ≡ true = starts-at line false false empty white in
    good_line before line lines (pair ∷ pairs) (ap (λ (b : Bool). b && not (has_tuple before)) g) r
    (good_file (before ++ line ∷ []) lines left behind (none-last is_file_line before line files (begins_no_file line (pair ∷ pairs) r))
    (inl (some-last starts_tuple before line (or_right (list_any starts_tuple before) _ (or_left (starts_tuple line) false s)))) rest)

-- a text that is spelled by tuples has no bad line and reads as them
pub spelled_is_read : (text : List ℕ) (tuples : List (List (List NdbPair))) → ReadsFile (lines_of text) tuples → (bad_line text ≡ None) × (tuples_of (lines_of text) ≡ tuples)
spelled_is_read text tuples r = (good_file [] (lines_of text) [] tuples refl (inr refl) r, (tuples_read (lines_of text) [] tuples r).1)

pub some_once : {X : Type 0} (o : Option X) (x y : X) → o ≡ Some x → o ≡ Some y → x ≡ y
some_once o x y ex ey = cc
