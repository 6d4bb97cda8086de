-- Readers that are exact: what is read is what the words spell, and what is spelled is read.
use Rattle.std.proofs.Common.{◌≡◌, ℕ, Bool, true, false, List, [], ◌∷◌, ◌++◌, refl, sym, ap, subst, ◌∙◌, Option, Some, None, append_assoc, append-nil, if◌then◌else◌}
use Rattle.std.specs.Prelude.{bytes_eq}
use Rattle.std.specs.List.{join_with_byte}
use Rattle.std.proofs.lemmas.List.Splits.{join_with_byte-slice_split}
use Rattle.std.proofs.lemmas.Option.{none-some, same_Some}
use Rattle.std.proofs.lemmas.Slice.Eq.{bytes_eq-Decides}
use Rattle.net_base.specs.Addresses.{parts_at}
use Rattle.history_reader.specs.EventRows.{otherwise}
use Rattle.history_reader.specs.Fields.{Words, Read, FieldReader, behind, both_fields, read_as, one, row_of, whole, with_rest}
use Rattle.history_reader.proofs.Clean.{IsFree}

-- blanks and newlines stand in no word
abbrev pub IsBare : List ℕ → Type 0
IsBare word = (IsFree 32 word) × (IsFree 10 word)

abbrev pub AreBare : Words → Type 0
AreBare [] = Unit {0}
AreBare (word ∷ words) = IsBare word × AreBare words

pub bare_both : (xs ys : Words) → AreBare xs → AreBare ys → AreBare (xs ++ ys)
bare_both [] ys bx by' = by'
bare_both (x ∷ xs) ys bx by' = (bx.0, bare_both xs ys bx.1 by')

-- what is made of what was read, and of what was read before
abbrev pub made_of : {X Y : Type 0} → (X → Y) → X → Words → Read Y
made_of make x rest = Some (make x, rest)

abbrev pub paired : {X Y : Type 0} → X → Y → Words → Read (X × Y)
paired x y rest = Some ((x, y), rest)

-- a word is read exactly where it is a value's
pub record ExactWord (X : Type 0) (read : List ℕ → Option X) (spell : X → List ℕ) (Fits : X → Type 0) : Type 0 where
  pub sound : (word : List ℕ) (x : X) → read word ≡ Some x → (word ≡ spell x) × Fits x
  pub told : (x : X) → Fits x → read (spell x) ≡ Some x
  pub bare : (x : X) → Fits x → IsBare (spell x)

-- the first words are read exactly where they are a value's
pub record Exact (X : Type 0) (read : FieldReader X) (spell : X → Words) (Fits : X → Type 0) : Type 0 where
  pub sound : (words : Words) (x : X) (rest : Words) → read words ≡ Some (x, rest) → (words ≡ spell x ++ rest) × Fits x
  pub told : (x : X) → Fits x → (rest : Words) → read (spell x ++ rest) ≡ Some (x, rest)
  pub bare : (x : X) → Fits x → AreBare (spell x)

-- One word.

one_sound : {X : Type 0} (read : List ℕ → Option X) (spell : X → List ℕ) (Fits : X → Type 0) → ExactWord X read spell Fits
    → (words : Words) (x : X) (rest : Words) → one read words ≡ Some (x, rest) → (words ≡ spell x ∷ rest) × Fits x
one_sound read spell Fits exact [] x rest e = absurd (none-some (x, rest) e)
one_sound {X} read spell Fits exact (word ∷ words) x rest e = by (read word) refl e
  where
    by : (o : Option X) → read word ≡ o → with_rest o words ≡ Some (x, rest) → (word ∷ words ≡ spell x ∷ rest) × Fits x
    by None q f = absurd (none-some (x, rest) f)
    by (Some y) q f =
        let same = same_Some (y, words) (x, rest) f in
        let is = exact.sound word y q in
        (ap (λ (v : List ℕ). v ∷ words) is.0 ∙ ap (λ (r : X × Words). spell r.0 ∷ r.1) same, subst (λ (r : X × Words). Fits r.0) same is.1)

pub exact_one : {X : Type 0} (read : List ℕ → Option X) (spell : X → List ℕ) (Fits : X → Type 0) → ExactWord X read spell Fits → Exact X (one read) (λ x. spell x ∷ []) Fits
exact_one read spell Fits exact =
    record {
      sound = one_sound read spell Fits exact;
      told = λ x fits rest. ap (λ o. with_rest o rest) (exact.told x fits);
      bare = λ x fits. (exact.bare x fits, tt);
    }

-- One after the other.

both_sound : {X Y : Type 0} (p : FieldReader X) (q : FieldReader Y) (sp : X → Words) (sq : Y → Words) (P : X → Type 0) (Q : Y → Type 0) → Exact X p sp P → Exact Y q sq Q
    → (words : Words) (f : X × Y) (rest : Words) → both_fields p q words ≡ Some (f, rest) → (words ≡ (sp f.0 ++ sq f.1) ++ rest) × (P f.0 × Q f.1)
both_sound {X} {Y} p q sp sq P Q ep eq words f rest e = first (p words) refl e
  where
    second : (x : X) (middle : Words) → p words ≡ Some (x, middle) → (o : Read Y) → q middle ≡ o → behind o (paired x) ≡ Some (f, rest)
        → (words ≡ (sp f.0 ++ sq f.1) ++ rest) × (P f.0 × Q f.1)
    second x middle ex None ey g = absurd (none-some (f, rest) g)
    second x middle ex (Some (y, last)) ey g =
        let front = ep.sound words x middle ex in
        let back = eq.sound middle y last ey in
        let same = same_Some ((x, y), last) (f, rest) g in (
          front.0 ∙ ap (λ (ws : Words). sp x ++ ws) back.0 ∙ sym (append_assoc (sp x) (sq y) last) ∙ ap (λ (r : (X × Y) × Words). (sp r.0.0 ++ sq r.0.1) ++ r.1) same,
          subst (λ (r : (X × Y) × Words). P r.0.0 × Q r.0.1) same (front.1, back.1),
        )

    first : (o : Read X) → p words ≡ o → behind o (λ x middle. behind (q middle) (paired x)) ≡ Some (f, rest) → (words ≡ (sp f.0 ++ sq f.1) ++ rest) × (P f.0 × Q f.1)
    first None ex g = absurd (none-some (f, rest) g)
    first (Some (x, middle)) ex g = second x middle ex (q middle) refl g

both_told : {X Y : Type 0} (p : FieldReader X) (q : FieldReader Y) (sp : X → Words) (sq : Y → Words) (P : X → Type 0) (Q : Y → Type 0) → Exact X p sp P → Exact Y q sq Q
    → (f : X × Y) → P f.0 × Q f.1 → (rest : Words) → both_fields p q ((sp f.0 ++ sq f.1) ++ rest) ≡ Some (f, rest)
both_told {X} {Y} p q sp sq P Q ep eq f fits rest =
    ap (both_fields p q) (append_assoc (sp f.0) (sq f.1) rest)
    ∙ ap (λ (o : Read X). behind o (λ x middle. behind (q middle) (paired x))) (ep.told f.0 fits.0 (sq f.1 ++ rest))
    ∙ ap (λ (o : Read Y). behind o (paired f.0)) (eq.told f.1 fits.1 rest)

pub exact_both : {X Y : Type 0} (p : FieldReader X) (q : FieldReader Y) (sp : X → Words) (sq : Y → Words) (P : X → Type 0) (Q : Y → Type 0) → Exact X p sp P → Exact Y q sq Q
    → Exact (X × Y) (both_fields p q) (λ f. sp f.0 ++ sq f.1) (λ f. P f.0 × Q f.1)
exact_both p q sp sq P Q ep eq =
    record {
      sound = both_sound p q sp sq P Q ep eq;
      told = both_told p q sp sq P Q ep eq;
      bare = λ f fits. bare_both (sp f.0) (sq f.1) (ep.bare f.0 fits.0) (eq.bare f.1 fits.1);
    }

-- What is made of what is read.

pub made_sound : {X Y : Type 0} (p : FieldReader X) (sp : X → Words) (P : X → Type 0) → Exact X p sp P → (make : X → Y) (sy : Y → Words) (Q : Y → Type 0)
    → ((x : X) → sy (make x) ≡ sp x) → ((x : X) → P x → Q (make x))
    → (words : Words) (y : Y) (rest : Words) → read_as p make words ≡ Some (y, rest) → (words ≡ sy y ++ rest) × Q y
made_sound {X} {Y} p sp P exact make sy Q spelled fits words y rest e = by (p words) refl e
  where
    by : (o : Read X) → p words ≡ o → behind o (made_of make) ≡ Some (y, rest) → (words ≡ sy y ++ rest) × Q y
    by None q f = absurd (none-some (y, rest) f)
    by (Some (x, last)) q f =
        let is = exact.sound words x last q in
        let same = same_Some (make x, last) (y, rest) f in
        (is.0 ∙ ap (λ (ws : Words). ws ++ last) (sym (spelled x)) ∙ ap (λ (r : Y × Words). sy r.0 ++ r.1) same, subst (λ (r : Y × Words). Q r.0) same (fits x is.1))

pub made_told : {X Y : Type 0} (p : FieldReader X) (sp : X → Words) (P : X → Type 0) → Exact X p sp P → (make : X → Y) (x : X) → P x → (rest : Words) → read_as p make (sp x ++ rest) ≡ Some (make x, rest)
made_told {X} {Y} p sp P exact make x fits rest = ap (λ (o : Read X). behind o (made_of make)) (exact.told x fits rest)

-- what is made, and can be taken apart again
pub exact_made : {X Y : Type 0} (p : FieldReader X) (sp : X → Words) (P : X → Type 0) → Exact X p sp P → (make : X → Y) (apart : Y → X)
    → ((x : X) → apart (make x) ≡ x) → ((y : Y) → make (apart y) ≡ y) → Exact Y (read_as p make) (λ y. sp (apart y)) (λ y. P (apart y))
exact_made p sp P exact make apart there back =
    record {
      sound = made_sound p sp P exact make (λ y. sp (apart y)) (λ y. P (apart y)) (λ x. ap sp (there x)) (λ x fits. subst P (sym (there x)) fits);
      told = λ y fits rest. made_told p sp P exact make (apart y) fits rest ∙ ap (λ z. Some (z, rest)) (back y);
      bare = λ y fits. exact.bare (apart y) fits;
    }

-- a reader is exact with other words for what fits, too
pub exact_as : {X : Type 0} (p : FieldReader X) (sp : X → Words) (P Q : X → Type 0) → Exact X p sp P → ((x : X) → P x → Q x) → ((x : X) → Q x → P x) → Exact X p sp Q
exact_as p sp P Q exact there back =
    record {
      sound = λ words x rest e. let is = exact.sound words x rest e in (is.0, there x is.1);
      told = λ x fits rest. exact.told x (back x fits) rest;
      bare = λ x fits. exact.bare x (back x fits);
    }

-- .. and with other words for what is spelled
pub exact_spelled : {X : Type 0} (p : FieldReader X) (sp sq : X → Words) (P : X → Type 0) → Exact X p sp P → ((x : X) → sp x ≡ sq x) → Exact X p sq P
exact_spelled p sp sq P exact same =
    record {
      sound = λ words x rest e. let is = exact.sound words x rest e in (is.0 ∙ ap (λ (ws : Words). ws ++ rest) (same x), is.1);
      told = λ x fits rest. ap (λ (ws : Words). p (ws ++ rest)) (sym (same x)) ∙ exact.told x fits rest;
      bare = λ x fits. subst AreBare (same x) (exact.bare x fits);
    }

-- Words of parts.

whole_is : {X : Type 0} (o : Read X) (x : X) → whole o ≡ Some x → o ≡ Some (x, [])
whole_is None x e = absurd (none-some x e)
whole_is (Some (y, [])) x e = ap (λ z. Some (z, [])) (same_Some y x e)
whole_is (Some (y, word ∷ words)) x e = absurd (none-some x e)

pub exact_parts : {X : Type 0} (s : ℕ) (p : FieldReader X) (pieces : X → Words) (P : X → Type 0) → Exact X p pieces P → (spell : X → List ℕ)
    → ((x : X) → spell x ≡ join_with_byte s (pieces x)) → ((x : X) → parts_at s (join_with_byte s (pieces x)) ≡ pieces x) → ((x : X) → IsBare (spell x))
    → ExactWord X (λ word. whole (p (parts_at s word))) spell P
exact_parts s p pieces P exact spell joined parts bare =
    record {
      sound = λ word x e.
          let is = exact.sound (parts_at s word) x [] (whole_is (p (parts_at s word)) x e) in
          (sym (join_with_byte-slice_split s word) ∙ ap (join_with_byte s) (is.0 ∙ append-nil (pieces x)) ∙ sym (joined x), is.1);
      told = λ x fits.
          ap (λ w. whole (p (parts_at s w))) (joined x)
          ∙ ap (λ (ws : Words). whole (p ws)) (parts x ∙ sym (append-nil (pieces x)))
          ∙ ap whole (exact.told x fits []);
      bare = λ x fits. bare x;
    }

-- Rows.

-- what a row reads is spelled with its word before it
abbrev pub IsRow : {Y : Type 0} → (Y → Words) → (Y → Type 0) → List ℕ → FieldReader Y → Type 0
IsRow {Y} spell Fits word read = (words : Words) (y : Y) (rest : Words) → read words ≡ Some (y, rest) → (word ∷ words ≡ spell y ++ rest) × Fits y

abbrev pub AreRows : {Y : Type 0} → (Y → Words) → (Y → Type 0) → List (List ℕ × FieldReader Y) → Type 0
AreRows spell Fits [] = Unit {0}
AreRows spell Fits (row ∷ rows) = IsRow spell Fits row.0 row.1 × AreRows spell Fits rows

pub rows_sound : {Y : Type 0} (spell : Y → Words) (Fits : Y → Type 0) (rows : List (List ℕ × FieldReader Y)) → AreRows spell Fits rows
    → (word : List ℕ) (words : Words) (y : Y) (rest : Words) → row_of rows word words ≡ Some (y, rest) → (word ∷ words ≡ spell y ++ rest) × Fits y
rows_sound spell Fits [] are word words y rest e = absurd (none-some (y, rest) e)
rows_sound spell Fits (row ∷ rows) are word words y rest e = by (bytes_eq word row.0) refl e (rows_sound spell Fits rows are.1 word words y rest)
  where
    by : (v : Bool) → bytes_eq word row.0 ≡ v → (if v then row.1 words else row_of rows word words) ≡ Some (y, rest) → (row_of rows word words ≡ Some (y, rest) → (word ∷ words ≡ spell y ++ rest) × Fits y) → (word ∷ words ≡ spell y ++ rest) × Fits y
    by true is f later =
        let told = are.0 words y rest f in
        (ap (λ (w : List ℕ). w ∷ words) ((bytes_eq-Decides word row.0).0 is) ∙ told.0, told.1)
    by false is f later = later f

-- a row whose value is made of its fields
pub row : {X Y : Type 0} (p : FieldReader X) (sp : X → Words) (P : X → Type 0) → Exact X p sp P → (make : X → Y) (spell : Y → Words) (Fits : Y → Type 0) (word : List ℕ)
    → ((x : X) → P x → spell (make x) ≡ word ∷ sp x) → ((x : X) → P x → Fits (make x)) → IsRow spell Fits word (read_as p make)
row {X} {Y} p sp P exact make spell Fits word spelled fits words y rest e = by (p words) refl e
  where
    by : (o : Read X) → p words ≡ o → behind o (made_of make) ≡ Some (y, rest) → (word ∷ words ≡ spell y ++ rest) × Fits y
    by None q f = absurd (none-some (y, rest) f)
    by (Some (x, last)) q f =
        let is = exact.sound words x last q in
        let same = same_Some (make x, last) (y, rest) f in
        (ap (λ (ws : Words). word ∷ ws) is.0 ∙ ap (λ (ws : Words). ws ++ last) (sym (spelled x is.1)) ∙ ap (λ (r : Y × Words). spell r.0 ++ r.1) same, subst (λ (r : Y × Words). Fits r.0) same (fits x is.1))

-- a row without fields
pub bare_row : {Y : Type 0} (value : Y) (spell : Y → Words) (Fits : Y → Type 0) (word : List ℕ) → spell value ≡ word ∷ [] → Fits value → IsRow spell Fits word (λ words. Some (value, words))
bare_row {Y} value spell Fits word spelled fits words y rest e =
    let same = same_Some (value, words) (y, rest) e in
    (ap (λ (ws : Words). ws ++ words) (sym spelled) ∙ ap (λ (r : Y × Words). spell r.0 ++ r.1) same, subst (λ (r : Y × Words). Fits r.0) same fits)

-- a row with two readings
pub either_row : {Y : Type 0} (p q : FieldReader Y) (spell : Y → Words) (Fits : Y → Type 0) (word : List ℕ) → IsRow spell Fits word p → IsRow spell Fits word q
    → IsRow spell Fits word (λ words. otherwise (p words) (q words))
either_row {Y} p q spell Fits word one other words y rest e = by (p words) refl e
  where
    by : (o : Read Y) → p words ≡ o → otherwise o (q words) ≡ Some (y, rest) → (word ∷ words ≡ spell y ++ rest) × Fits y
    by (Some read) is f = one words y rest (is ∙ f)
    by None is f = other words y rest f

-- what is read of the words of a row, and that these are bare
abbrev pub Back : {Y : Type 0} → FieldReader Y → Y → Words → Words → Type 0
Back read y fields words = ((rest : Words) → read (fields ++ rest) ≡ Some (y, rest)) × AreBare words

pub back : {X Y : Type 0} (p : FieldReader X) (sp : X → Words) (P : X → Type 0) → Exact X p sp P → (make : X → Y) (word : List ℕ) → IsBare word → (x : X) → P x → Back (read_as p make) (make x) (sp x) (word ∷ sp x)
back p sp P exact make word clean x fits = (made_told p sp P exact make x fits, (clean, exact.bare x fits))
