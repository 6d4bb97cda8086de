-- The text of tuples that can be written is spelled by them.
use Rattle.std.proofs.Common.{◌≡◌, ℕ, ◌⊎◌, inl, inr, Bool, true, false, cond, List, [], ◌∷◌, ◌++◌, refl, sym, ap, subst, ◌∙◌, arith, append_assoc}
use Rattle.std.specs.List.{list_any, onto_first}
use Rattle.std.proofs.lemmas.List.Folds.{list_any-append}
use Rattle.std.proofs.lemmas.List.Splits.{slice_split-cons_no}
use Rattle.net_base.specs.Ndb.{NdbPair}
use Rattle.net_base.specs.NdbText.{is_white, is_newline, is_percent, is_quote, is_zero, begins, lines_of}
use Rattle.formats.specs.NdbSpelling.{None_of, IsAttr, plain, quoted, EndsWord, IsPairWord, ReadsWords, ReadsLine, ReadsTuples}
use Rattle.formats.proofs.Shared.{or_false, or_false_first, or_false_rest}
use Rattle.ndb_reader.specs.Written.{value_text, one_pair_text, more_pairs, pairs_text, more_lines, db_text}
use Rattle.net_model.proofs.NdbWritable.{WritablePair, WritablePairs, WritableLine, WritableLines, BeginsNone, WritableTuples}

-- Words.

word-by : (pair : NdbPair) (rest : List ℕ) (white : Bool) → list_any is_white pair.value ≡ white → WritablePair pair → EndsWord rest → IsPairWord (one_pair_text pair) pair rest
word-by pair rest true e f ends = record {
  way = quoted;
  bytes = ap (λ (b : Bool). pair.attr ++ (61 ∷ cond b (34 ∷ (pair.value ++ 34 ∷ [])) pair.value)) e;
  attr = f.attr;
  value = closed f.closed;
  ends = ends;
}
  where
    closed : None_of is_quote pair.value ⊎ None_of is_white pair.value → None_of is_quote pair.value
    closed (inl none) = none
    closed (inr none) = cc
word-by pair rest false e f ends = record {
  way = plain;
  bytes = ap (λ (b : Bool). pair.attr ++ (61 ∷ cond b (34 ∷ (pair.value ++ 34 ∷ [])) pair.value)) e;
  attr = f.attr;
  value = (e, f.bare);
  ends = ends;
}

word-written : (pair : NdbPair) (rest : List ℕ) → WritablePair pair → EndsWord rest → IsPairWord (one_pair_text pair) pair rest
word-written pair rest f ends = word-by pair rest _ refl f ends

more-end : (pairs : List NdbPair) → EndsWord (more_pairs pairs)
more-end [] = inl refl
more-end (pair ∷ pairs) = inr refl

more-read : (pairs : List NdbPair) → WritablePairs pairs → ReadsWords (more_pairs pairs) pairs
more-read [] f = ([], [], refl, tt, inl refl)
more-read (pair ∷ pairs) f =
    (32 ∷ [], one_pair_text pair, more_pairs pairs, refl, (refl, tt), word-written pair (more_pairs pairs) f.0 (more-end pairs), more-read pairs f.1)

-- Bytes that stand nowhere.

none-join : (p : ℕ → Bool) (front rest : List ℕ) → None_of p front → None_of p rest → None_of p (front ++ rest)
none-join p front rest nf nr = list_any-append p front rest ∙ or_false _ _ nf nr

-- neither blank, tab, `=` nor quote passes
record Spared (p : ℕ → Bool) : Type 0 where
  blank : p 32 ≡ false
  tab : p 9 ≡ false
  equals : p 61 ≡ false
  quote : p 34 ≡ false

none-value : (p : ℕ → Bool) (value : List ℕ) (white : Bool) → Spared p → None_of p value → None_of p (cond white (34 ∷ (value ++ 34 ∷ [])) value)
none-value p value true s none = or_false _ _ s.quote (none-join p value (34 ∷ []) none (or_false _ _ s.quote refl))
none-value p value false s none = none

none-pair : (p : ℕ → Bool) (pair : NdbPair) → Spared p → None_of p pair.attr × None_of p pair.value → None_of p (one_pair_text pair)
none-pair p pair s none =
    none-join p pair.attr (61 ∷ value_text pair.value) none.0 (or_false _ _ s.equals (none-value p pair.value (list_any is_white pair.value) s none.1))

none-more : (p : ℕ → Bool) → Spared p → ((pair : NdbPair) → WritablePair pair → None_of p pair.attr × None_of p pair.value) → (pairs : List NdbPair) → WritablePairs pairs → None_of p (more_pairs pairs)
none-more p s each [] f = refl
none-more p s each (pair ∷ pairs) f =
    or_false _ _ s.blank (none-join p (one_pair_text pair) (more_pairs pairs) (none-pair p pair s (each pair f.0)) (none-more p s each pairs f.1))

none-line : (p : ℕ → Bool) → Spared p → ((pair : NdbPair) → WritablePair pair → None_of p pair.attr × None_of p pair.value) → (line : List NdbPair) → WritableLine line → None_of p (pairs_text line)
none-line p s each [] f = refl
none-line p s each (pair ∷ pairs) f =
    none-join p (one_pair_text pair) (more_pairs pairs) (none-pair p pair s (each pair f.0)) (none-more p s each pairs f.1)

spared-newline : Spared is_newline
spared-newline = record { blank = refl; tab = refl; equals = refl; quote = refl }

spared-zero : Spared is_zero
spared-zero = record { blank = refl; tab = refl; equals = refl; quote = refl }

line-newline : (line : List NdbPair) → WritableLine line → None_of is_newline (pairs_text line)
line-newline line f = none-line is_newline spared-newline (λ pair w. w.lines) line f

line-zero : (line : List NdbPair) → WritableLine line → None_of is_zero (pairs_text line)
line-zero line f = none-line is_zero spared-zero (λ pair w. w.zeros) line f

-- Lines.

begins-attr : (p : ℕ → Bool) (attr rest : List ℕ) → IsAttr attr → begins p attr ≡ false → begins p (attr ++ rest) ≡ false
begins-attr p [] rest a none = absurd (omega (arith, a.some))
begins-attr p (b ∷ attr) rest a none = none

attr-white : (attr : List ℕ) → IsAttr attr → begins is_white attr ≡ false
attr-white [] a = refl
attr-white (b ∷ attr) a = or_false_first (is_white b) (list_any is_white attr) a.white

begins-line : (p : ℕ → Bool) (pair : NdbPair) (pairs : List NdbPair) → IsAttr pair.attr → begins p pair.attr ≡ false → begins p (pairs_text (pair ∷ pairs)) ≡ false
begins-line p pair pairs a none =
    ap (begins p) (append_assoc pair.attr (61 ∷ value_text pair.value) (more_pairs pairs)) ∙ begins-attr p pair.attr _ a none

first-read : (pair : NdbPair) (pairs : List NdbPair) → WritableLine (pair ∷ pairs) → BeginsNone (pair ∷ pairs) → ReadsLine (pairs_text (pair ∷ pairs)) (pair ∷ pairs)
first-read pair pairs f none = record {
  zero = line-zero (pair ∷ pairs) f;
  percent = begins-line is_percent pair pairs f.0.attr none;
  words = ([], one_pair_text pair, more_pairs pairs, refl, tt, word-written pair (more_pairs pairs) f.0 (more-end pairs), more-read pairs f.1);
}

next-read : (pair : NdbPair) (pairs : List NdbPair) → WritableLine (pair ∷ pairs) → ReadsLine (9 ∷ pairs_text (pair ∷ pairs)) (pair ∷ pairs)
next-read pair pairs f = record {
  zero = line-zero (pair ∷ pairs) f;
  percent = refl;
  words = (9 ∷ [], one_pair_text pair, more_pairs pairs, refl, (refl, tt), word-written pair (more_pairs pairs) f.0 (more-end pairs), more-read pairs f.1);
}

-- a line is cut off at its newline
cut-line : (line rest : List ℕ) → None_of is_newline line → lines_of (line ++ (10 ∷ rest)) ≡ line ∷ lines_of rest
cut-line [] rest none = refl
cut-line (b ∷ line) rest none =
    slice_split-cons_no is_newline b (line ++ (10 ∷ rest)) (or_false_first (is_newline b) (list_any is_newline line) none)
    ∙ ap (onto_first b) (cut-line line rest (or_false_rest (is_newline b) (list_any is_newline line) none))

-- Tuples.

more-lines : (lines : List (List NdbPair)) (rest : List ℕ) (tuples : List (List (List NdbPair))) → WritableLines lines → ReadsTuples (lines_of rest) [] tuples → ReadsTuples (lines_of (more_lines lines ++ rest)) lines tuples
more-lines [] rest tuples f others = others
more-lines ([] ∷ lines) rest tuples f others = absurd f.0
more-lines ((pair ∷ pairs) ∷ lines) rest tuples f others =
    let line : List ℕ = 9 ∷ pairs_text (pair ∷ pairs) in
    let cut : lines_of (more_lines ((pair ∷ pairs) ∷ lines) ++ rest) ≡ line ∷ lines_of (more_lines lines ++ rest) =
    ap lines_of (append_assoc line (10 ∷ more_lines lines) rest) ∙ cut-line line (more_lines lines ++ rest) (line-newline (pair ∷ pairs) f.0) in
    subst (λ (ls : List (List ℕ)). ReadsTuples ls ((pair ∷ pairs) ∷ lines) tuples) (sym cut)
    (inr (inl (pair, pairs, lines, refl, refl, next-read pair pairs f.0, more-lines lines rest tuples f.1 others)))

pub written_reads : (db : List (List (List NdbPair))) → WritableTuples db → ReadsTuples (lines_of (db_text db)) [] db
written_reads [] f = inl (record { zero = refl; percent = refl; words = ([], [], refl, tt, inl refl) }, (refl, refl))
written_reads ([] ∷ tuples) f = absurd f.0
written_reads (([] ∷ lines) ∷ tuples) f = absurd f.0.0
written_reads (((pair ∷ pairs) ∷ lines) ∷ tuples) f =
    let line : List ℕ = pairs_text (pair ∷ pairs) in
    let cut : lines_of (db_text (((pair ∷ pairs) ∷ lines) ∷ tuples)) ≡ line ∷ lines_of (more_lines lines ++ db_text tuples) =
    ap lines_of (append_assoc line (10 ∷ more_lines lines) (db_text tuples)) ∙ cut-line line (more_lines lines ++ db_text tuples) (line-newline (pair ∷ pairs) f.0.0) in
    subst (λ (ls : List (List ℕ)). ReadsTuples ls [] (((pair ∷ pairs) ∷ lines) ∷ tuples)) (sym cut)
    (inr (inr (
      pair,
      pairs,
      lines,
      tuples,
      refl,
      refl,
      begins-line is_white pair pairs f.0.0.0.attr (attr-white pair.attr f.0.0.0.attr),
      first-read pair pairs f.0.0 f.0.1,
      more-lines lines (db_text tuples) tuples f.0.2 (written_reads tuples f.1),
    )))
