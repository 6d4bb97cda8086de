-- What a text reads as can be written: no line is empty, and no byte of its pairs ends a line or a value.
use Rattle.std.proofs.Common.{◌≡◌, ℕ, ◌⊎◌, inl, inr, Bool, true, false, ◌||◌, List, [], ◌∷◌, ◌++◌, refl, sym, ap, subst, ◌∙◌, bytes_eq}
use Rattle.std.specs.Prelude.{codes}
use Rattle.std.specs.List.{list_any, filter, flat_map, slice_split, onto_first}
use Rattle.std.proofs.lemmas.List.Folds.{list_any-append}
use Rattle.std.proofs.lemmas.List.Splits.{slice_split-cons_no, slice_split-cons_yes}
use Rattle.net_base.specs.Ndb.{NdbPair}
use Rattle.net_base.specs.NdbText.{is_white, is_newline, is_percent, is_quote, is_zero, begins, lines_of}
use Rattle.net_base.specs.NdbBundle.{File, tuples_named, tuples_chosen, names_of, choosing}
use Rattle.formats.specs.NdbSpelling.{None_of, IsAttr, PairWay, alone, plain, quoted, spelled, Suits, IsPairWord, IsWhite, ReadsWords, ReadsLine, ReadsTuples, ReadsFiles, ReadsBundle}
use Rattle.formats.proofs.Shared.{or_false, or_false_first, or_false_rest}

-- Pairs, lines and tuples that can be written.

pub record WritablePair (pair : NdbPair) : Type 0 where
  pub attr : IsAttr pair.attr
  pub lines : None_of is_newline pair.attr × None_of is_newline pair.value
  pub zeros : None_of is_zero pair.attr × None_of is_zero pair.value
  pub closed : None_of is_quote pair.value ⊎ None_of is_white pair.value
  pub bare : begins is_quote pair.value ≡ false

abbrev pub WritablePairs : List NdbPair → Type 0
WritablePairs [] = Unit {0}
WritablePairs (pair ∷ pairs) = WritablePair pair × WritablePairs pairs

abbrev pub WritableLine : List NdbPair → Type 0
WritableLine [] = ⊥
WritableLine (pair ∷ pairs) = WritablePair pair × WritablePairs pairs

abbrev pub WritableLines : List (List NdbPair) → Type 0
WritableLines [] = Unit {0}
WritableLines (line ∷ lines) = WritableLine line × WritableLines lines

-- the first line begins with no `%`
abbrev pub BeginsNone : List NdbPair → Type 0
BeginsNone [] = ⊥
BeginsNone (pair ∷ pairs) = begins is_percent pair.attr ≡ false

abbrev pub WritableTuple : List (List NdbPair) → Type 0
WritableTuple [] = ⊥
WritableTuple (line ∷ lines) = WritableLine line × BeginsNone line × WritableLines lines

abbrev pub WritableTuples : List (List (List NdbPair)) → Type 0
WritableTuples [] = Unit {0}
WritableTuples (tuple ∷ tuples) = WritableTuple tuple × WritableTuples tuples

-- Lines of a text have no newline.

abbrev EachWithout : List (List ℕ) → Type 0
EachWithout [] = Unit {0}
EachWithout (line ∷ lines) = None_of is_newline line × EachWithout lines

onto-without : (b : ℕ) (lines : List (List ℕ)) → is_newline b ≡ false → EachWithout lines → EachWithout (onto_first b lines)
onto-without b [] e w = (or_false _ _ e refl, tt)
onto-without b (line ∷ lines) e w = (or_false _ _ e w.0, w.1)

cut-without : (b : ℕ) (bytes : List ℕ) (v : Bool) → is_newline b ≡ v → EachWithout (slice_split is_newline bytes) → EachWithout (slice_split is_newline (b ∷ bytes))
cut-without b bytes true e w = subst EachWithout (sym (slice_split-cons_yes is_newline b bytes e)) (refl, w)
cut-without b bytes false e w = subst EachWithout (sym (slice_split-cons_no is_newline b bytes e)) (onto-without b (slice_split is_newline bytes) e w)

lines-without : (text : List ℕ) → EachWithout (lines_of text)
lines-without [] = (refl, tt)
lines-without (b ∷ bytes) = cut-without b bytes _ refl (lines-without bytes)

without-parts : (front rest : List (List ℕ)) → EachWithout (front ++ rest) → EachWithout front × EachWithout rest
without-parts [] rest w = (tt, w)
without-parts (line ∷ front) rest w =
    let parts = without-parts front rest w.1 in
    ((w.0, parts.0), parts.1)

-- Words.

none-parts : (p : ℕ → Bool) (front rest : List ℕ) → None_of p (front ++ rest) → None_of p front × None_of p rest
none-parts p front rest none =
    let both : (list_any p front || list_any p rest) ≡ false = sym (list_any-append p front rest) ∙ none in
    (or_false_first (list_any p front) (list_any p rest) both, or_false_rest (list_any p front) (list_any p rest) both)

-- no byte of a word passes, so none of its pair
none-way : (p : ℕ → Bool) (way : PairWay) (pair : NdbPair) → Suits way pair.value → None_of p (spelled way pair) → None_of p pair.attr × None_of p pair.value
none-way p alone pair suits none = (none, ap (list_any p) suits)
none-way p plain pair suits none =
    let parts = none-parts p pair.attr (61 ∷ pair.value) none in
    (parts.0, or_false_rest (p 61) (list_any p pair.value) parts.1)
none-way p quoted pair suits none =
    let parts = none-parts p pair.attr (61 ∷ 34 ∷ (pair.value ++ 34 ∷ [])) none in
    let behind = or_false_rest (p 34) _ (or_false_rest (p 61) _ parts.1) in
    (parts.0, (none-parts p pair.value (34 ∷ []) behind).0)

closed-way : (way : PairWay) (value : List ℕ) → Suits way value → None_of is_quote value ⊎ None_of is_white value
closed-way alone value suits = inl (ap (list_any is_quote) suits)
closed-way plain value suits = inr suits.0
closed-way quoted value suits = inl suits

none-first : (p : ℕ → Bool) (bytes : List ℕ) → None_of p bytes → begins p bytes ≡ false
none-first p [] none = refl
none-first p (b ∷ bytes) none = or_false_first (p b) (list_any p bytes) none

bare-way : (way : PairWay) (value : List ℕ) → Suits way value → begins is_quote value ≡ false
bare-way alone value suits = ap (begins is_quote) suits
bare-way plain value suits = suits.1
bare-way quoted value suits = none-first is_quote value suits

writable-word : (word : List ℕ) (pair : NdbPair) (rest : List ℕ) → IsPairWord word pair rest → None_of is_newline word → None_of is_zero word → WritablePair pair
writable-word word pair rest w newline zero = record {
  attr = w.attr;
  lines = none-way is_newline w.way pair w.value (ap (list_any is_newline) (sym w.bytes) ∙ newline);
  zeros = none-way is_zero w.way pair w.value (ap (list_any is_zero) (sym w.bytes) ∙ zero);
  closed = closed-way w.way pair.value w.value;
  bare = bare-way w.way pair.value w.value;
}

writable-words : (line : List ℕ) (pairs : List NdbPair) → ReadsWords line pairs → None_of is_newline line → None_of is_zero line → WritablePairs pairs
writable-words line [] r newline zero = tt
writable-words line (pair ∷ pairs) (white, word, rest, is, w, i, more) newline zero =
    let ns = none-parts is_newline word rest (none-parts is_newline white (word ++ rest) (ap (list_any is_newline) (sym is) ∙ newline)).1 in
    let zs = none-parts is_zero word rest (none-parts is_zero white (word ++ rest) (ap (list_any is_zero) (sym is) ∙ zero)).1 in
    (writable-word word pair rest i ns.0 zs.0, writable-words rest pairs more ns.1 zs.1)

writable-line : (line : List ℕ) (pair : NdbPair) (pairs : List NdbPair) → ReadsLine line (pair ∷ pairs) → None_of is_newline line → WritableLine (pair ∷ pairs)
writable-line line pair pairs r newline = writable-words line (pair ∷ pairs) r.words newline r.zero

begins-front : (p : ℕ → Bool) (front rest : List ℕ) → begins p (front ++ rest) ≡ false → begins p front ≡ false
begins-front p [] rest none = refl
begins-front p (b ∷ front) rest none = none

begins-way : (p : ℕ → Bool) (way : PairWay) (pair : NdbPair) → begins p (spelled way pair) ≡ false → begins p pair.attr ≡ false
begins-way p alone pair none = none
begins-way p plain pair none = begins-front p pair.attr (61 ∷ pair.value) none
begins-way p quoted pair none = begins-front p pair.attr (61 ∷ 34 ∷ (pair.value ++ 34 ∷ [])) none

-- bytes that don't begin with white space have none before their first word
no-white : (white rest : List ℕ) → IsWhite white → begins is_white (white ++ rest) ≡ false → white ≡ []
no-white [] rest w none = refl
no-white (b ∷ white) rest w none = absurd (cc-of (sym w.0 ∙ none))
  where
    cc-of : true ≡ false → ⊥
    cc-of e = cc

begins-none : (line : List ℕ) (pair : NdbPair) (pairs : List NdbPair) → begins is_white line ≡ false → ReadsLine line (pair ∷ pairs) → begins is_percent pair.attr ≡ false
begins-none line pair pairs none r = by r.words
  where
    by : ReadsWords line (pair ∷ pairs) → begins is_percent pair.attr ≡ false
    by (white, word, rest, is, w, i, more) =
        let empty : white ≡ [] = no-white white (word ++ rest) w (ap (begins is_white) (sym is) ∙ none) in
        let whole : line ≡ word ++ rest = is ∙ ap (λ (front : List ℕ). front ++ (word ++ rest)) empty in
        begins-way is_percent i.way pair
        (ap (begins is_percent) (sym i.bytes) ∙ begins-front is_percent word rest (ap (begins is_percent) (sym whole) ∙ r.percent))

-- Tuples.

writable-tuples : (lines : List (List ℕ)) (more : List (List NdbPair)) (tuples : List (List (List NdbPair))) → ReadsTuples lines more tuples → EachWithout lines → WritableLines more × WritableTuples tuples
writable-tuples [] more tuples (m, t) w = (subst WritableLines (sym m) tt, subst WritableTuples (sym t) tt)
writable-tuples (line ∷ lines) more tuples (inl (r, rest)) w = writable-tuples lines more tuples rest w.1
writable-tuples (line ∷ lines) more tuples (inr (inl (pair, pairs, left, m, white, r, rest))) w =
    let others = writable-tuples lines left tuples rest w.1 in
    (subst WritableLines (sym m) (writable-line line pair pairs r w.0, others.0), others.1)
writable-tuples (line ∷ lines) more tuples (inr (inr (pair, pairs, left, behind, m, t, white, r, rest))) w =
    let others = writable-tuples lines left behind rest w.1 in (
      subst WritableLines (sym m) tt,
      subst WritableTuples (sym t) ((writable-line line pair pairs r w.0, begins-none line pair pairs white r, others.0), others.1),
    )

writable-append : (ts us : List (List (List NdbPair))) → WritableTuples ts → WritableTuples us → WritableTuples (ts ++ us)
writable-append [] us ft fu = fu
writable-append (t ∷ ts) us ft fu = (ft.0, writable-append ts us ft.1 fu)

-- Files.

abbrev WritableFiles : List File → Type 0
WritableFiles [] = Unit {0}
WritableFiles (file ∷ files) = WritableTuples file.tuples × WritableFiles files

writable-files : (lines : List (List ℕ)) (file : File) (files : List File) → ReadsFiles lines file files → EachWithout lines → WritableFiles (file ∷ files)
writable-files lines file [] r w = ((writable-tuples lines [] file.tuples r w).1, tt)
writable-files lines file (next ∷ files) (front, rest, is, named, r, others) w =
    let parts = without-parts front ((codes "%file " ++ next.name) ∷ rest) (subst EachWithout is w) in
    ((writable-tuples front [] file.tuples r parts.0).1, writable-files rest next files others parts.1.1)

writable-filter : (p : File → Bool) (file : File) (files : List File) (v : Bool) → p file ≡ v → WritableTuples file.tuples → WritableFiles (filter p files) → WritableFiles (filter p (file ∷ files))
writable-filter p file files true e f rest = rw e (f, rest)
writable-filter p file files false e f rest = rw e rest

writable-filtered : (p : File → Bool) (files : List File) → WritableFiles files → WritableFiles (filter p files)
writable-filtered p [] f = tt
writable-filtered p (file ∷ files) f = writable-filter p file files _ refl f.0 (writable-filtered p files f.1)

writable-joined : (files : List File) → WritableFiles files → WritableTuples (flat_map (λ file. file.tuples) files)
writable-joined [] f = tt
writable-joined (file ∷ files) f = writable-append file.tuples _ f.0 (writable-joined files f.1)

writable-named : (files : List File) (names : List (List ℕ)) → WritableFiles files → WritableTuples (flat_map (tuples_named files) names)
writable-named files [] f = tt
writable-named files (name ∷ names) f =
    writable-append (tuples_named files name) _ (writable-joined _ (writable-filtered (λ file. bytes_eq file.name name) files f)) (writable-named files names f)

writable-chosen : (local : File) (files : List File) (names : List (List ℕ)) → WritableFiles (local ∷ files) → WritableTuples (tuples_chosen local files names)
writable-chosen local files [] f = f.0
writable-chosen local files (name ∷ names) f = writable-named (local ∷ files) (name ∷ names) f

pub bundle_is_writable : (text : List ℕ) (db : List (List (List NdbPair))) → ReadsBundle (lines_of text) db → WritableTuples db
bundle_is_writable text db r =
    subst WritableTuples (sym r.are_chosen)
    (writable-chosen r.local r.files (names_of (choosing r.local.tuples)) (writable-files (lines_of text) r.local r.files r.read (lines-without text)))
