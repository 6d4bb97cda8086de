-- A text that is read line by line.
use Rattle.std.proofs.Common.{◌≡◌, ℕ, ◌+◌, ◌<◌, ◌≤◌, suc, Bool, true, false, not, cond, List, [], ◌∷◌, ◌++◌, length, take, drop, refl, sym, ap, subst, ◌∙◌, arith, Option, Some, None, length-append}
use Rattle.std.specs.Prelude.{is_none}
use Rattle.std.specs.List.{position_or_len}
use Rattle.std.proofs.lemmas.Option.{none-some, same_Some}
use Rattle.std.proofs.lemmas.List.Splits.{length-slice_split}
use Rattle.std.proofs.lemmas.List.Sums.{count_by-le-length}
use Rattle.net_base.specs.NdbText.{is_newline, lines_of}
use Rattle.net_base.specs.Ndb.{NdbPair}
use Rattle.net_base.specs.NdbBundle.{first_bad, told_line, least_of_causes, has_tuple, causes_of, bad_line, database, reading}
use Rattle.world_text.specs.WorldLines.{Draft, Verdict, line_verdict}
use Rattle.world_text.specs.WorldText.{Cut, with_first, cuts_of, judged, reading_from}
use Rattle.world_file.specs.declared.fault.WorldError.TheVariants as error
use Rattle.world_file.specs.Told.{TellsBehind}

abbrev cut_at : ℕ → ℕ → List ℕ → List Cut
cut_at n m text = record { line = take n text; behind = drop m text } ∷ cuts_of (drop m text)

abbrev first_cut : ℕ → List ℕ → List Cut
first_cut n text = cut_at n (n + 1) text

one-more : (n : ℕ) → 1 + n ≡ suc n
one-more n = omega arith

two-more : (n : ℕ) → suc n + 1 ≡ suc (n + 1)
two-more n = omega arith

-- the first line ends at the first newline
pub cuts-first : (text : List ℕ) → 0 < length text → cuts_of text ≡ first_cut (position_or_len is_newline text) text
cuts-first [] some = absurd (omega (arith, some))
cuts-first (b ∷ bytes) some = by (is_newline b) refl (longer bytes (cuts-first bytes))
  where
    place : (v : Bool) → is_newline b ≡ v → position_or_len is_newline (b ∷ bytes) ≡ cond (not v) (1 + position_or_len is_newline bytes) 0
    place v e = ap (λ u. cond (not u) (1 + position_or_len is_newline bytes) 0) e

    cut : (v : Bool) → is_newline b ≡ v → cuts_of (b ∷ bytes) ≡ cond v (record { line = []; behind = bytes } ∷ cuts_of bytes) (with_first b (cuts_of bytes))
    cut v e = ap (λ u. cond u (record { line = []; behind = bytes } ∷ cuts_of bytes) (with_first b (cuts_of bytes))) e

    longer : (more : List ℕ) → (0 < length more → cuts_of more ≡ first_cut (position_or_len is_newline more) more) → with_first b (cuts_of more) ≡ cut_at (suc (position_or_len is_newline more)) (suc (position_or_len is_newline more + 1)) (b ∷ more)
    longer [] h = refl
    longer (c ∷ more) h = ap (with_first b) (h (omega arith))

    by : (v : Bool) → is_newline b ≡ v → with_first b (cuts_of bytes) ≡ cut_at (suc (position_or_len is_newline bytes)) (suc (position_or_len is_newline bytes + 1)) (b ∷ bytes) → cuts_of (b ∷ bytes) ≡ first_cut (position_or_len is_newline (b ∷ bytes)) (b ∷ bytes)
    by true e later = cut true e ∙ sym (ap (λ n. first_cut n (b ∷ bytes)) (place true e))
    by false e later =
        cut false e
        ∙ (later
        ∙ sym (ap (λ n. first_cut n (b ∷ bytes)) (place false e ∙ one-more (position_or_len is_newline bytes))
        ∙ ap (λ m. cut_at (suc (position_or_len is_newline bytes)) m (b ∷ bytes)) (two-more (position_or_len is_newline bytes))))

-- what is read behind the draft at the first line
pub reading-line : (d : Draft) (n : ℕ) (text line behind : List ℕ) (v : Verdict) → cuts_of text ≡ record { line = line; behind = behind } ∷ cuts_of behind → line_verdict d line ≡ v
    → reading_from d n (cuts_of text) ≡ judged n behind v (λ (next : Draft). reading_from next (n + 1) (cuts_of behind))
reading-line d n text line behind v cut e =
    ap (reading_from d n) cut ∙ ap (λ (w : Verdict). judged n behind w (λ (next : Draft). reading_from next (n + 1) (cuts_of behind))) e

-- a bad line is one of the lines
first-within : (before lines : List (List ℕ)) (n c : ℕ) → first_bad causes_of before lines ≡ Some (n, c) → n ≤ length before + length lines
first-within before [] n c e = absurd (none-some (n, c) e)
first-within before (line ∷ lines) n c e = by (least_of_causes (causes_of (has_tuple before) line)) e (first-within (before ++ line ∷ []) lines n c)
  where
    by : (o : Option ℕ) → told_line (length before + 1) o (first_bad causes_of (before ++ line ∷ []) lines) ≡ Some (n, c)
        → (first_bad causes_of (before ++ line ∷ []) lines ≡ Some (n, c) → n ≤ length (before ++ line ∷ []) + length lines) → n ≤ length before + length (line ∷ lines)
    by None f later = let h = later f in let l = length-append before (line ∷ []) in omega (arith, h, l)
    by (Some k) f later = let h = ap (λ (p : ℕ × ℕ). p.0) (same_Some (length before + 1, k) (n, c) f) in omega (arith, h)

pub bad-within : (text : List ℕ) (n c : ℕ) → bad_line text ≡ Some (n, c) → n ≤ length text + 1
bad-within text n c e =
    let h = first-within [] (lines_of text) n c e in
    let l = length-slice_split is_newline text in
    let f = count_by-le-length is_newline text in omega (arith, h, l, f)

-- a database that is read
pub is_database : (text : List ℕ) (db : List (List (List NdbPair))) → bad_line text ≡ None → reading text ≡ Some db → db ≡ database (lines_of text)
is_database text db good read =
    sym (same_Some (database (lines_of text)) db (sym (ap (λ (o : Option (ℕ × ℕ)). cond (is_none o) (Some (database (lines_of text))) None) good) ∙ read))

-- a bad line so many lines further on
pub told_behind : (number line cause : ℕ) (bad : Option (ℕ × ℕ)) → bad ≡ Some (line, cause) → TellsBehind number (error.Bad (number + line) cause) bad
told_behind number line cause bad is = subst (λ (o : Option (ℕ × ℕ)). TellsBehind number (error.Bad (number + line) cause) o) (sym is) (refl, refl)
