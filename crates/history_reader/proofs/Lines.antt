-- Lines of entries: a line is good exactly where it is an entry's with its stamp.
use Rattle.std.proofs.Common.{◌≡◌, ◌≢◌, ℕ, ◌+◌, ◌<◌, ◌^◌, Bool, true, false, if◌then◌else◌, List, [], ◌∷◌, ◌++◌, ◌⊎◌, inl, inr, refl, sym, ap, subst, ◌∙◌, arith, Option, Some, None, append-nil}
use Rattle.std.specs.List.{join_with_byte}
use Rattle.std.proofs.lemmas.Bool.{false≢true, ne_eqb, eqb-true}
use Rattle.std.proofs.lemmas.List.Splits.{join_with_byte-slice_split}
use Rattle.std.proofs.lemmas.Option.{none-some}
use Rattle.net_base.specs.declared.history.Entry.{Entry}
use Rattle.net_base.specs.Addresses.{number_in}
use Rattle.net_base.specs.Numeral.{numeral}
use Rattle.net_base.specs.Transcript.{entry_words, line_of, spaced}
use Rattle.history_reader.specs.EntryReading.{entry_of}
use Rattle.history_reader.specs.Fields.{Words}
use Rattle.history_reader.specs.LineReading.{EntryVerdict, Good, Refused, line_words, entry_verdict, words_verdict, line_stamped, is_stamp, is_same, is_numeral, stamp_cause}
use Rattle.history_reader.specs.Spelling.{IsGoodHistory}
use Rattle.history_reader.proofs.Clean.{IsFree, AreFree, free_both, free_numeral, parts_back, parts_free, parts_keep}
use Rattle.history_reader.proofs.EntryWords.{FitsEntry, entry_bare, entry_good, entry_sound, entry_told}
use Rattle.history_reader.proofs.Exact.{AreBare, IsBare}
use Rattle.history_reader.proofs.FieldWords.{number_exact, bare_numeral}
use Rattle.history_reader.proofs.Values.{numeral_is, numeral_spelled, same_numeral, value}
use Rattle.net_base.proofs.Shared.{number_itself}

-- a line without its newline
abbrev pub body_of : ℕ → Entry → List ℕ
body_of stamp x = numeral stamp ++ spaced (entry_words x)

pub whole_line : (stamp : ℕ) (x : Entry) → line_of stamp x ≡ body_of stamp x ++ 10 ∷ []
unfolding line_of
whole_line stamp x = refl

pub joined_spaced : (word : List ℕ) (words : Words) → join_with_byte 32 (word ∷ words) ≡ word ++ spaced words
joined_spaced word [] = sym (append-nil word)
joined_spaced word (next ∷ words) = ap (λ ws. word ++ 32 ∷ ws) (joined_spaced next words)

pub bare_free : (s : ℕ) (words : Words) → AreBare words → (AreFree 32 words) × (AreFree 10 words)
bare_free s [] all = (tt, tt)
bare_free s (word ∷ words) all =
    let rest = bare_free s words all.1 in
    ((all.0.0, rest.0), (all.0.1, rest.1))

-- the words of a line of words
pub words_back : (word : List ℕ) (words : Words) → IsBare word → AreBare words → line_words (word ++ spaced words) ≡ word ∷ words
words_back word words bare all =
    ap line_words (sym (joined_spaced word words)) ∙ parts_back 32 word words (bare.0, (bare_free 0 words all).0)

pub spaced_free : (words : Words) → AreFree 10 words → IsFree 10 (spaced words)
spaced_free [] all = tt
spaced_free (word ∷ words) all = (refl, free_both 10 word (spaced words) all.0 (spaced_free words all.1))

pub body_free : (stamp : ℕ) (x : Entry) → IsGoodHistory x → IsFree 10 (body_of stamp x)
body_free stamp x good = free_both 10 (numeral stamp) (spaced (entry_words x)) (free_numeral 10 stamp (omega arith)) (spaced_free (entry_words x) (bare_free 0 (entry_words x) (entry_bare x good)).1)

body_words : (stamp : ℕ) (x : Entry) → IsGoodHistory x → line_words (body_of stamp x) ≡ numeral stamp ∷ entry_words x
body_words stamp x good = words_back (numeral stamp) (entry_words x) (bare_numeral stamp) (entry_bare x good)

-- Stamps.

stamp_sound : (stamp : ℕ) (word : List ℕ) → is_stamp stamp word ≡ true → word ≡ numeral stamp
stamp_sound stamp word e = by (number_in 0 18446744073709551615 word) refl e
  where
    by : (o : Option ℕ) → number_in 0 18446744073709551615 word ≡ o → is_same stamp o ≡ true → word ≡ numeral stamp
    by None q f = absurd (false≢true f)
    by (Some n) q f = ((number_exact 18446744073709551615 (omega arith)).sound word n q).0 ∙ ap (λ k. numeral k) (eqb-true n stamp f)

stamp_told : (stamp : ℕ) → stamp < 2 ^ 64 → is_stamp stamp (numeral stamp) ≡ true
stamp_told stamp lt = ap (is_same stamp) ((number_exact 18446744073709551615 (omega arith)).told stamp (omega (arith, lt))) ∙ number_itself stamp

stamp_other : (stamp other : ℕ) → other ≢ stamp → is_stamp stamp (numeral other) ≡ false
stamp_other stamp other apart = by (number_in 0 18446744073709551615 (numeral other)) refl
  where
    by : (o : Option ℕ) → number_in 0 18446744073709551615 (numeral other) ≡ o → is_same stamp o ≡ false
    by None q = refl
    by (Some n) q = ne_eqb n stamp (λ is. apart (same_numeral other n (((number_exact 18446744073709551615 (omega arith)).sound (numeral other) n q).0) ∙ is))

-- Verdicts.

abbrev entry_in : Entry → EntryVerdict → Entry
entry_in y (Good x) = x
entry_in y (Refused cause) = y

good_is : (x y : Entry) → Good x ≡ Good y → x ≡ y
good_is x y e = ap (entry_in x) e

abbrev is_good : EntryVerdict → Bool
is_good (Good x) = true
is_good (Refused cause) = false

refused_good : (cause : ℕ) (x : Entry) → Refused cause ≡ Good x → ⊥
refused_good cause x e = false≢true (ap is_good e)

abbrev cause_in : EntryVerdict → ℕ
cause_in (Good x) = 0
cause_in (Refused cause) = cause

cause_is : (c d : ℕ) → Refused c ≡ Refused d → c ≡ d
cause_is c d e = ap cause_in e

abbrev first_of : Words → List ℕ
first_of [] = []
first_of (word ∷ words) = word

abbrev behind_first : Words → Words
behind_first [] = []
behind_first (word ∷ words) = words

abbrev is_some_word : Words → Bool
is_some_word [] = false
is_some_word (word ∷ words) = true

no_cons : (word : List ℕ) (words : Words) → [] ≡ word ∷ words → ⊥
no_cons word words e = false≢true (ap is_some_word e)

pub line_told : (stamp : ℕ) (x : Entry) → stamp < 2 ^ 64 → IsGoodHistory x → entry_verdict stamp (body_of stamp x) ≡ Good x
line_told stamp x lt good =
    ap (words_verdict stamp) (body_words stamp x good)
    ∙ ap (line_stamped stamp (numeral stamp)) (entry_told x good)
    ∙ ap (λ v. if v then Good x else Refused (stamp_cause (numeral stamp))) (stamp_told stamp lt)

pub line_other : (stamp other : ℕ) (x : Entry) → other ≢ stamp → IsGoodHistory x → entry_verdict stamp (body_of other x) ≡ Refused 42
line_other stamp other x apart good =
    ap (words_verdict stamp) (body_words other x good)
    ∙ ap (line_stamped stamp (numeral other)) (entry_told x good)
    ∙ ap (λ v. if v then Good x else Refused (stamp_cause (numeral other))) (stamp_other stamp other apart)
    ∙ ap (λ v. Refused (if v then 42 else 41)) (numeral_is other)

-- what a line of these words is
line_by : (line word : List ℕ) (words : Words) (x : Entry) (stamp : ℕ) → line_words line ≡ word ∷ words → words ≡ entry_words x → word ≡ numeral stamp → line ≡ body_of stamp x
line_by line word words x stamp are is at =
    sym (join_with_byte-slice_split 32 line) ∙ ap (join_with_byte 32) are ∙ joined_spaced word words
    ∙ ap (λ ws. word ++ spaced ws) is ∙ ap (λ w. w ++ spaced (entry_words x)) at

free_words : (words : Words) → AreFree 32 words → AreFree 10 words → AreBare words
free_words [] f g = tt
free_words (word ∷ words) f g = ((f.0, g.0), free_words words f.1 g.1)

good_of : (line word : List ℕ) (words : Words) (x : Entry) → IsFree 10 line → line_words line ≡ word ∷ words → words ≡ entry_words x → FitsEntry x → IsGoodHistory x
good_of line word words x free are is fits =
    let all = subst AreBare are (free_words (line_words line) (parts_free 32 line) (parts_keep 32 10 line free)) in
    entry_good x fits (subst AreBare is all.1)

-- a line that isn't bad is that of an entry with a stamp that is asked for
pub record Told (stamp : ℕ) (line : List ℕ) (x : Entry) : Type 0 where
  pub line_is : line ≡ body_of stamp x
  pub good : IsGoodHistory x

pub line_sound : (stamp : ℕ) (line : List ℕ) (x : Entry) → IsFree 10 line → entry_verdict stamp line ≡ Good x → Told stamp line x
line_sound stamp line x free e = by (line_words line) refl e
  where
    at : (word : List ℕ) (words : Words) → line_words line ≡ word ∷ words → (y : Entry) → entry_of words ≡ Some y → (v : Bool) → is_stamp stamp word ≡ v
        → (if v then Good y else Refused (stamp_cause word)) ≡ Good x → Told stamp line x
    at word words are y q true s f =
        let is = entry_sound words y q in
        let same = good_is y x f in
        subst (Told stamp line) same (record { line_is = line_by line word words y stamp are is.0 (stamp_sound stamp word s); good = good_of line word words y free are is.0 is.1 })
    at word words are y q false s f = absurd (refused_good (stamp_cause word) x f)

    stamped_by : (word : List ℕ) (words : Words) → line_words line ≡ word ∷ words → (o : Option Entry) → entry_of words ≡ o → line_stamped stamp word o ≡ Good x → Told stamp line x
    stamped_by word words are None q f = absurd (refused_good 41 x f)
    stamped_by word words are (Some y) q f = at word words are y q (is_stamp stamp word) refl f

    by : (words : Words) → line_words line ≡ words → words_verdict stamp words ≡ Good x → Told stamp line x
    by [] are f = absurd (refused_good 41 x f)
    by (word ∷ words) are f = stamped_by word words are (entry_of words) refl f

-- where only the stamp is wrong
pub record Other (stamp : ℕ) (line : List ℕ) : Type 0 where
  pub other : ℕ
  pub x : Entry
  pub apart : other ≢ stamp
  pub line_is : line ≡ body_of other x
  pub good : IsGoodHistory x

-- a line that is refused: by its stamp alone, or it is no entry's
abbrev pub IsRefused : ℕ → List ℕ → ℕ → Type 0
IsRefused stamp line cause = ((cause ≡ 42) × Other stamp line) ⊎ ((cause ≡ 41) × ((other : ℕ) (x : Entry) → IsGoodHistory x → line ≢ body_of other x))

pub line_refused : (stamp : ℕ) (line : List ℕ) (cause : ℕ) → stamp < 2 ^ 64 → IsFree 10 line → entry_verdict stamp line ≡ Refused cause → IsRefused stamp line cause
line_refused stamp line cause lt free e = by (line_words line) refl e
  where
    none : (41 ≡ cause) → ((other : ℕ) (x : Entry) → IsGoodHistory x → line ≢ body_of other x) → IsRefused stamp line cause
    none is all = inr (sym is, all)

    no_entry : (word : List ℕ) (words : Words) → line_words line ≡ word ∷ words → entry_of words ≡ None → (other : ℕ) (x : Entry) → IsGoodHistory x → line ≢ body_of other x
    no_entry word words are q other x good is =
        let same : word ∷ words ≡ numeral other ∷ entry_words x = sym are ∙ ap line_words is ∙ body_words other x good in
        none-some x (sym q ∙ ap entry_of (ap behind_first same) ∙ entry_told x good)

    no_numeral : (word : List ℕ) (words : Words) → line_words line ≡ word ∷ words → is_numeral word ≡ false → (other : ℕ) (x : Entry) → IsGoodHistory x → line ≢ body_of other x
    no_numeral word words are q other x good is =
        let same : word ∷ words ≡ numeral other ∷ entry_words x = sym are ∙ ap line_words is ∙ body_words other x good in
        false≢true (sym q ∙ ap is_numeral (ap first_of same) ∙ numeral_is other)

    at_numeral : (word : List ℕ) (words : Words) → line_words line ≡ word ∷ words → (y : Entry) → entry_of words ≡ Some y → is_stamp stamp word ≡ false → (v : Bool) → is_numeral word ≡ v
        → Refused (if v then 42 else 41) ≡ Refused cause → IsRefused stamp line cause
    at_numeral word words are y q s true n f =
        let is = entry_sound words y q in
        let at = numeral_spelled word n in
        inl (
          sym (cause_is 42 cause f),
          record {
            other = value 0 word;
            x = y;
            apart = λ same. false≢true (sym s ∙ ap (is_stamp stamp) (at ∙ ap (λ k. numeral k) same) ∙ stamp_told stamp lt);
            line_is = line_by line word words y (value 0 word) are is.0 at;
            good = good_of line word words y free are is.0 is.1;
          },
        )
    at_numeral word words are y q s false n f = none (cause_is 41 cause f) (no_numeral word words are n)

    at_stamp : (word : List ℕ) (words : Words) → line_words line ≡ word ∷ words → (y : Entry) → entry_of words ≡ Some y → (v : Bool) → is_stamp stamp word ≡ v
        → (if v then Good y else Refused (stamp_cause word)) ≡ Refused cause → IsRefused stamp line cause
    at_stamp word words are y q true s f = absurd (refused_good cause y (sym f))
    at_stamp word words are y q false s f = at_numeral word words are y q s (is_numeral word) refl f

    at_entry : (word : List ℕ) (words : Words) → line_words line ≡ word ∷ words → (o : Option Entry) → entry_of words ≡ o → line_stamped stamp word o ≡ Refused cause → IsRefused stamp line cause
    at_entry word words are None q f = none (cause_is 41 cause f) (no_entry word words are q)
    at_entry word words are (Some y) q f = at_stamp word words are y q (is_stamp stamp word) refl f

    by : (words : Words) → line_words line ≡ words → words_verdict stamp words ≡ Refused cause → IsRefused stamp line cause
    by [] are f =
        none (cause_is 41 cause f)
        (λ other x good is. no_cons (numeral other) (entry_words x) (sym are ∙ ap line_words is ∙ body_words other x good))
    by (word ∷ words) are f = at_entry word words are (entry_of words) refl f
