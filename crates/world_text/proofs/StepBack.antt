-- What a step spells is read as it, stands on one line and isn't passed over.
use Rattle.std.proofs.Common.{◌≡◌, ℕ, ◌<◌, ◌^◌, ◌==◌, true, not, List, [], ◌∷◌, ◌++◌, length, refl, sym, ap, subst, ◌∙◌, arith, Option, Some, None, append-nil}
use Rattle.std.specs.Prelude.{decimal, option_map, if◌then◌else◌}
use Rattle.std.specs.Option.{option_and_then}
use Rattle.std.specs.List.{list_all}
use Rattle.std.proofs.lemmas.Bool.{and_parts, false≢true, ltb-true}
use Rattle.std.proofs.lemmas.Bool.Decides.{nat_tests}
use Rattle.std.proofs.lemmas.List.Splits.{join_with_byte-slice_split}
use Rattle.net_base.specs.declared.names.Mode.{Mode}
use Rattle.net_base.specs.declared.names.Mode.TheVariants as mode
use Rattle.net_base.specs.declared.world.Step.{Step}
use Rattle.net_base.specs.Addresses.{parts_at}
use Rattle.net_base.specs.DatagramHeaders.{has_headers}
use Rattle.net_base.specs.Paths.{mode_named}
use Rattle.net_base.specs.Remotes.{is_remote_path}
use Rattle.net_base.specs.Transcript.{mode_word}
use Rattle.net_base.specs.World.{is_byte, is_letter, is_text, is_within, is_word}
use Rattle.net_base.proofs.Shared.{IsWithout, cut_at, one_part, hex-back, hex-without, number-back, some_part}
use Rattle.world_text.specs.WorldWords.{words_left}
use Rattle.net_base.specs.StepWords.{WordKind, AName, AWord, ARemotePath, ANumber, AMode, PerhapsMode, HexBytes, ADatagram, TheRest, TheRestOf, Value, value_fits, ValuesOf, values_fit, StepMaker, worded, is_step}
use Rattle.world_text.specs.LineReading.{value_kept, read_value, read_values, read_word, row_read, step_in_line, step_read, whole_step, words_line}
use Rattle.world_text.specs.WorldSpelling.{spaced_line, speaks, spelled_value, spelled_values, words_of_step}
use Rattle.world_text.proofs.StepRows.{applied, are_letters, are_readable, known, stands_before}
use Rattle.world_text.proofs.WordsFree.{AreFree, apart-blank, apart-newline, free-append, letters-free, mode-free, name-free, number-free, text-free}

-- the values of a row that fit, one by one
pub fit-parts : (k : WordKind) (ks : List WordKind) (values : ValuesOf (k ∷ ks)) → values_fit (k ∷ ks) values ≡ true → (value_fits k values.first ≡ true) × (values_fit ks values.rest ≡ true)
fit-parts k [] values fit = (fit, refl)
fit-parts k (l ∷ ks) values fit = and_parts (value_fits k values.first) (values_fit (l ∷ ks) values.rest) fit

-- Newlines.

value-free : (k : WordKind) (value : Value k) → stands_before k [] ≡ true → value_fits k value ≡ true → AreFree 10 (spelled_value k value)
value-free AName called stands fit = (name-free 10 apart-newline called fit, tt)
value-free AWord word stands fit = (apart-newline.path word fit, tt)
value-free ARemotePath path stands fit = (apart-newline.path path ((and_parts (is_word path) (is_remote_path path) fit).0), tt)
value-free (ANumber least most) n stands fit = (number-free 10 apart-newline least most n (ltb-true most (2 ^ 64) stands) fit, tt)
value-free AMode m stands fit = (mode-free 10 apart-newline m, tt)
value-free PerhapsMode None stands fit = tt
value-free PerhapsMode (Some m) stands fit = (mode-free 10 apart-newline m, tt)
value-free HexBytes bytes stands fit = (hex-without 10 bytes (apart-newline.low), tt)
value-free ADatagram bytes stands fit = (hex-without 10 bytes (apart-newline.low), tt)
value-free TheRest text stands fit = (text-free text fit, tt)
value-free (TheRestOf least most) text stands fit = (text-free text ((and_parts (is_text text) (is_within least most (length text)) fit).0), tt)

stands-alone : (k : WordKind) (ks : List WordKind) → stands_before k ks ≡ true → stands_before k [] ≡ true
stands-alone (ANumber least most) ks stands = stands
stands-alone PerhapsMode ks stands = refl
stands-alone TheRest ks stands = refl
stands-alone (TheRestOf least most) ks stands = refl
stands-alone _ ks stands = refl

values-free : (ks : List WordKind) (values : ValuesOf ks) → are_readable ks ≡ true → values_fit ks values ≡ true → AreFree 10 (spelled_values ks values)
values-free [] values readable fit = tt
values-free (k ∷ ks) values readable fit =
    let both = and_parts (stands_before k ks) (are_readable ks) readable in
    let parts = fit-parts k ks values fit in
    free-append 10 (spelled_value k values.first) (spelled_values ks values.rest)
    (value-free k values.first (stands-alone k ks both.0) parts.0) (values-free ks values.rest both.1 parts.1)

word-letters : (word : List ℕ) → are_letters word ≡ true → list_all is_letter word ≡ true
word-letters [] are = absurd (false≢true are)
word-letters (b ∷ word) are = are

-- the words of a step have no newline
pub one-step : (s : Step) → is_step s ≡ true → AreFree 10 (words_of_step s)
one-step s fit =
    let row = (known s).row in
    subst (AreFree 10) (sym (known s).words) (
      letters-free 10 apart-newline (worded s).row.word (word-letters (worded s).row.word row.letters),
      values-free (worded s).row.kinds (worded s).values row.readable (sym (known s).fits ∙ fit),
    )

loud-letter : (b : ℕ) → is_letter b ≡ true → not (b == 35) ≡ true
loud-letter b is = grind (arith, nat_tests)

loud-word : (word : List ℕ) (words : List (List ℕ)) → are_letters word ≡ true → speaks (spaced_line (word ∷ words)) ≡ true
loud-word [] words are = absurd (false≢true are)
loud-word (b ∷ word) [] are = loud-letter b ((and_parts (is_letter b) (list_all is_letter word) are).0)
loud-word (b ∷ word) (next ∷ words) are = loud-letter b ((and_parts (is_letter b) (list_all is_letter word) are).0)

-- the line of a step isn't passed over
pub loud-step : (s : Step) → speaks (spaced_line (words_of_step s)) ≡ true
loud-step s =
    subst (λ (words : List (List ℕ)). speaks (spaced_line words) ≡ true) (sym (known s).words)
    (loud-word (worded s).row.word (spelled_values (worded s).row.kinds (worded s).values) (known s).row.letters)

-- Blanks.

-- the words that a value's line is cut into: a text has blanks of its own
abbrev broken_value : (k : WordKind) → Value k → List (List ℕ)
broken_value TheRest text = parts_at 32 text
broken_value (TheRestOf least most) text = parts_at 32 text
broken_value k value = spelled_value k value

abbrev broken_values : (ks : List WordKind) → ValuesOf ks → List (List ℕ)
broken_values [] values = []
broken_values (k ∷ ks) values = broken_value k values.first ++ broken_values ks values.rest

-- a line is cut before the words of these values, whichever word stands first
abbrev AreCut : (ks : List WordKind) → ValuesOf ks → Type 0
AreCut ks values = (word : List ℕ) → IsWithout 32 word → parts_at 32 (spaced_line (word ∷ spelled_values ks values)) ≡ word ∷ broken_values ks values

text-cut : (word text : List ℕ) → IsWithout 32 word → parts_at 32 (spaced_line (word ∷ text ∷ [])) ≡ word ∷ (parts_at 32 text ++ [])
text-cut word text free = cut_at 32 word text (parts_at 32 text) free refl ∙ ap (λ (ws : List (List ℕ)). word ∷ ws) (sym (append-nil (parts_at 32 text)))

next-cut : (k : WordKind) (ks : List WordKind) (values : ValuesOf (k ∷ ks)) → stands_before k ks ≡ true → value_fits k values.first ≡ true → AreCut ks values.rest → AreCut (k ∷ ks) values
next-cut AName ks values stands fit cut word free = cut_at 32 word _ _ free (cut values.first (name-free 32 apart-blank values.first fit))
next-cut AWord ks values stands fit cut word free = cut_at 32 word _ _ free (cut values.first (apart-blank.path values.first fit))
next-cut ARemotePath ks values stands fit cut word free =
    cut_at 32 word _ _ free (cut values.first (apart-blank.path values.first ((and_parts (is_word values.first) (is_remote_path values.first) fit).0)))
next-cut (ANumber least most) ks values stands fit cut word free =
    cut_at 32 word _ _ free (cut (decimal values.first) (number-free 32 apart-blank least most values.first (ltb-true most (2 ^ 64) stands) fit))
next-cut AMode ks values stands fit cut word free = cut_at 32 word _ _ free (cut (mode_word values.first) (mode-free 32 apart-blank values.first))
next-cut PerhapsMode [] values stands fit cut word free = by values.first
  where
    by : (m : Option Mode) → parts_at 32 (spaced_line (word ∷ (spelled_value PerhapsMode m ++ []))) ≡ word ∷ (spelled_value PerhapsMode m ++ [])
    by None = one_part 32 word free
    by (Some m) = cut_at 32 word (mode_word m) (mode_word m ∷ []) free (one_part 32 (mode_word m) (mode-free 32 apart-blank m))
next-cut PerhapsMode (l ∷ ks) values stands fit cut word free = absurd (false≢true stands)
next-cut HexBytes ks values stands fit cut word free = cut_at 32 word _ _ free (cut _ (hex-without 32 values.first (apart-blank.low)))
next-cut ADatagram ks values stands fit cut word free = cut_at 32 word _ _ free (cut _ (hex-without 32 values.first (apart-blank.low)))
next-cut TheRest [] values stands fit cut word free = text-cut word values.first free
next-cut TheRest (l ∷ ks) values stands fit cut word free = absurd (false≢true stands)
next-cut (TheRestOf least most) [] values stands fit cut word free = text-cut word values.first free
next-cut (TheRestOf least most) (l ∷ ks) values stands fit cut word free = absurd (false≢true stands)

values-cut : (ks : List WordKind) (values : ValuesOf ks) → are_readable ks ≡ true → values_fit ks values ≡ true → AreCut ks values
values-cut [] values readable fit word free = one_part 32 word free
values-cut (k ∷ ks) values readable fit word free =
    let both = and_parts (stands_before k ks) (are_readable ks) readable in
    let parts = fit-parts k ks values fit in
    next-cut k ks values both.0 parts.0 (values-cut ks values.rest both.1 parts.1) word free

-- Values.

mode-back : (m : Mode) → mode_named (mode_word m) ≡ Some m
mode-back mode.Read = refl
mode-back mode.Write = refl
mode-back mode.Both = refl

kept-back : (k : WordKind) (behind : List (List ℕ)) (value : Value k) → value_fits k value ≡ true → value_kept k behind value ≡ Some (value, behind)
kept-back k behind value fit = ap (λ b. if b then Some (value, behind) else None) fit

text-back : (text : List ℕ) (read : List (List ℕ) → Option (List ℕ × List (List ℕ))) (value : Option (List ℕ × List (List ℕ)))
    → ((word : List ℕ) (words : List (List ℕ)) → words_left (word ∷ words) ≡ text → read (word ∷ words) ≡ value) → read (parts_at 32 text ++ []) ≡ value
text-back text read value back = ap read (append-nil (parts_at 32 text)) ∙ by (parts_at 32 text) (some_part 32 text) (join_with_byte-slice_split 32 text)
  where
    by : (parts : List (List ℕ)) → 0 < length parts → words_left parts ≡ text → read parts ≡ value
    by [] some is = absurd (omega (arith, some))
    by (word ∷ words) some is = back word words is

value-back : (k : WordKind) (ks : List WordKind) (values : ValuesOf (k ∷ ks)) → stands_before k ks ≡ true → value_fits k values.first ≡ true
    → read_value k (broken_values (k ∷ ks) values) ≡ Some (values.first, broken_values ks values.rest)
value-back AName ks values stands fit = kept-back AName _ values.first fit
value-back AWord ks values stands fit = kept-back AWord _ values.first fit
value-back ARemotePath ks values stands fit = kept-back ARemotePath _ values.first fit
value-back (ANumber least most) ks values stands fit =
    ap (option_and_then (value_kept (ANumber least most) (broken_values ks values.rest))) (number-back least most values.first (ltb-true most (2 ^ 64) stands) fit)
    ∙ kept-back (ANumber least most) _ values.first fit
value-back AMode ks values stands fit = ap (option_and_then (value_kept AMode (broken_values ks values.rest))) (mode-back values.first)
value-back PerhapsMode [] values stands fit = by values.first
  where
    by : (m : Option Mode) → read_value PerhapsMode (spelled_value PerhapsMode m ++ []) ≡ Some (m, [])
    by None = refl
    by (Some m) = ap (λ o. option_and_then (value_kept PerhapsMode []) (option_map (λ (n : Mode). Some n) o)) (mode-back m)
value-back PerhapsMode (l ∷ ks) values stands fit = absurd (false≢true stands)
value-back HexBytes ks values stands fit = ap (option_and_then (value_kept HexBytes (broken_values ks values.rest))) (hex-back values.first fit) ∙ kept-back HexBytes _ values.first fit
value-back ADatagram ks values stands fit =
    ap (option_and_then (value_kept ADatagram (broken_values ks values.rest))) (hex-back values.first ((and_parts (list_all is_byte values.first) (has_headers values.first) fit).0))
    ∙ kept-back ADatagram _ values.first fit
value-back TheRest [] values stands fit =
    text-back values.first (read_value TheRest) _ (λ word words is. ap (λ (t : List ℕ). read_word TheRest t []) is ∙ kept-back TheRest [] values.first fit)
value-back TheRest (l ∷ ks) values stands fit = absurd (false≢true stands)
value-back (TheRestOf least most) [] values stands fit =
    text-back values.first (read_value (TheRestOf least most)) _
    (λ word words is. ap (λ (t : List ℕ). read_word (TheRestOf least most) t []) is ∙ kept-back (TheRestOf least most) [] values.first fit)
value-back (TheRestOf least most) (l ∷ ks) values stands fit = absurd (false≢true stands)

values-back : (ks : List WordKind) (make : StepMaker ks) (values : ValuesOf ks) → are_readable ks ≡ true → values_fit ks values ≡ true
    → read_values ks make (broken_values ks values) ≡ Some (applied ks make values, [])
values-back [] made values readable fit = refl
values-back (k ∷ ks) make values readable fit =
    let both = and_parts (stands_before k ks) (are_readable ks) readable in
    let parts = fit-parts k ks values fit in
    ap (option_and_then (λ (read : Value k × List (List ℕ)). read_values ks (make read.0) read.1)) (value-back k ks values both.0 parts.0)
    ∙ values-back ks (make values.first) values.rest both.1 parts.1

-- Steps.

-- the words of a step's line, of which the first names its row and the others are read as it
pub record IsBack (s : Step) : Type 0 where
  pub args : List (List ℕ)
  pub cut : parts_at 32 (spaced_line (words_of_step s)) ≡ (worded s).row.word ∷ args
  pub own : words_line ((worded s).row.word ∷ args) ≡ step_read (step_in_line (worded s).row.word args)
  pub read : step_in_line (worded s).row.word args ≡ Some (Some s)

pub step-back : (s : Step) → is_step s ≡ true → IsBack s
step-back s old =
    let at = worded s in
    let row = (known s).row in
    let fit = sym (known s).fits ∙ old in
    record {
      args = broken_values at.row.kinds at.values;
      cut = ap (λ (words : List (List ℕ)). parts_at 32 (spaced_line words)) (known s).words
          ∙ values-cut at.row.kinds at.values row.readable fit at.row.word (letters-free 32 apart-blank at.row.word (word-letters at.row.word row.letters));
      own = (known s).own (broken_values at.row.kinds at.values);
      read = ap (λ o. option_map whole_step (option_map (row_read (broken_values at.row.kinds at.values)) o)) (known s).found
          ∙ (ap (λ o. Some (whole_step o)) (values-back at.row.kinds at.row.make at.values row.readable fit)
          ∙ ap (λ (t : Step). Some (Some t)) (known s).made);
    }
