-- The words read so far are the first words after the path.
use Rattle.std.proofs.Common.{◌≡◌, sym, refl, ◌∙◌, ap, ℕ, suc, ◌+◌, ◌≤◌, List, [], ◌∷◌, ◌++◌, drop, length, map, Option, Some, None, arith, append_assoc, subst, take, IfSome}
use Rattle.std.specs.Prelude.{IsUtf8, slice_get}
use Rattle.std.specs.List.{AllByRecursion}
use Rattle.std.proofs.lemmas.Option.{none-some, same_Some}
use Rattle.std.proofs.lemmas.List.{append-nil, map_push, length-map, length-append}
use Rattle.net_model.specs.CommandLine.{AreWordsAfterPath, HasNoWordAt, IsWordAt}

-- each of them is UTF-8, and the rest comes after them
pub record AreReadSoFar (words : List (List ℕ)) (read : List (List ℕ)) : Type 0 where
  pub all : AllByRecursion IsUtf8 read
  pub rest : List (List ℕ)
  pub split : drop 1 words ≡ read ++ rest

all_push : (ws : List (List ℕ)) (w : List ℕ) → AllByRecursion IsUtf8 ws → IsUtf8 w → AllByRecursion IsUtf8 (ws ++ w ∷ [])
all_push [] w all is = (is, tt)
all_push (x ∷ xs) w all is = (all.0, all_push xs w all.1 is)

all_at : (xs ys : List (List ℕ)) (w : List ℕ) → AllByRecursion IsUtf8 (xs ++ w ∷ ys) → IsUtf8 w
all_at [] ys w all = all.0
all_at (x ∷ xs) ys w all = all_at xs ys w all.1

-- the next word is the first of the rest
rest_begins : (read rest : List (List ℕ)) (w : List ℕ) → slice_get (read ++ rest) (length read) ≡ Some w → (ys : List (List ℕ)) × (rest ≡ w ∷ ys)
rest_begins [] [] w e = absurd (none-some w e)
rest_begins [] (x ∷ xs) w e = (xs, ap (λ y. y ∷ xs) (same_Some x w e))
rest_begins (r ∷ read) rest w e = rest_begins read rest w e

after_path : (words : List (List ℕ)) (n : ℕ) (w : List ℕ) → slice_get words (n + 1) ≡ Some w → slice_get (drop 1 words) n ≡ Some w
after_path [] n w e = absurd (none-some w e)
after_path (x ∷ xs) n w e = let up : n + 1 ≡ suc n = omega arith in ap (λ (k : ℕ). slice_get (x ∷ xs) k) (sym up) ∙ e

next_of : (words read : List (List ℕ)) (w : List ℕ) (so : AreReadSoFar words read) → slice_get words (length read + 1) ≡ Some w
    → (ys : List (List ℕ)) × (drop 1 words ≡ read ++ w ∷ ys)
next_of words read w so e =
    let more = rest_begins read so.rest w (ap (λ (l : List (List ℕ)). slice_get l (length read)) (sym so.split) ∙ after_path words (length read) w e)
    in (more.0, so.split ∙ ap (λ (l : List (List ℕ)). read ++ l) more.1)

pub so_far_none : (words : List (List ℕ)) → AreReadSoFar words []
so_far_none words = record { all = tt; rest = drop 1 words; split = refl }

pub so_far_more : (words read : List (List ℕ)) (w : List ℕ) → AreReadSoFar words read → slice_get words (length read + 1) ≡ Some w → IsUtf8 w
    → AreReadSoFar words (read ++ w ∷ [])
so_far_more words read w so e is =
    let more = next_of words read w so e
    in record { all = all_push read w so.all is; rest = more.0; split = more.1 ∙ sym (append_assoc read (w ∷ []) more.0) }

-- a word that is not UTF-8: no words are returned
pub after_bad : (words read : List (List ℕ)) (w : List ℕ) → AreReadSoFar words read → slice_get words (length read + 1) ≡ Some w → (IsUtf8 w → ⊥)
    → AreWordsAfterPath words []
after_bad words read w so e bad =
    let more = next_of words read w so e
    in record { all = λ all. absurd (bad (all_at read more.0 w (subst (AllByRecursion IsUtf8) more.1 all))); none = λ _. refl }

no_rest : (read rest : List (List ℕ)) → length (read ++ rest) ≤ length read → rest ≡ []
no_rest [] [] le = refl
no_rest [] (x ∷ xs) le = absurd (omega (arith, le))
no_rest (r ∷ read) rest le = no_rest read rest (omega (arith, le))

length_after : (words : List (List ℕ)) (n : ℕ) → length words ≤ n + 1 → length (drop 1 words) ≤ n
length_after [] n le = omega arith
length_after (x ∷ xs) n le = omega (arith, le)

-- no word comes after them: all are returned
pub after_all : (words read : List (List ℕ)) → AreReadSoFar words read → length words ≤ length read + 1 → AreWordsAfterPath words read
after_all words read so le =
    let short : length (read ++ so.rest) ≤ length read = subst (λ (l : List (List ℕ)). length l ≤ length read) so.split (length_after words (length read) le) in
    let whole : drop 1 words ≡ read = so.split ∙ ap (λ (l : List (List ℕ)). read ++ l) (no_rest read so.rest short) ∙ append-nil read
    in record { all = λ _. sym whole; none = λ not. absurd (not (subst (AllByRecursion IsUtf8) (sym whole) so.all)) }

-- The same for words that may be told or not, and for texts by their bytes.

pub told_none : {S : Type 0} (f : S → List ℕ) (told : Option (List (List ℕ))) (items : List S) → items ≡ []
    → IfSome told (λ words. AreReadSoFar words (map f items))
told_none f None items e = tt
told_none f (Some words) items e = subst (λ l. AreReadSoFar words (map f l)) (sym e) (so_far_none words)

pub told_all : {S : Type 0} (f : S → List ℕ) (told : Option (List (List ℕ))) (place : ℕ) (items : List S) → place ≡ length items + 1
    → IfSome told (λ words. AreReadSoFar words (map f items)) → HasNoWordAt told place → IfSome told (λ words. AreWordsAfterPath words (map f items))
told_all f None place items at so past = tt
told_all f (Some words) place items at so past =
    after_all words (map f items) so (subst (λ n. length words ≤ n + 1) (sym (length-map items f)) (subst (λ n. length words ≤ n) at past))

at_length : {S : Type 0} (f : S → List ℕ) (words : List (List ℕ)) (place : ℕ) (items : List S) (word : List ℕ) → place ≡ length items + 1
    → slice_get words place ≡ Some word → slice_get words (length (map f items) + 1) ≡ Some word
at_length f words place items word at e = ap (λ (n : ℕ). slice_get words n) (ap (λ (n : ℕ). n + 1) (length-map items f) ∙ sym at) ∙ e

pub told_bad : {S : Type 0} (f : S → List ℕ) (told : Option (List (List ℕ))) (place : ℕ) (items none : List S) (word : List ℕ) → place ≡ length items + 1
    → IfSome told (λ words. AreReadSoFar words (map f items)) → IsWordAt told place word → (IsUtf8 word → ⊥) → none ≡ []
    → IfSome told (λ words. AreWordsAfterPath words (map f none))
told_bad f None place items none word at so is bad e = tt
told_bad f (Some words) place items none word at so is bad e =
    subst (λ l. AreWordsAfterPath words (map f l)) (sym e) (after_bad words (map f items) word so (at_length f words place items word at is) bad)

pub told_more : {S : Type 0} (f : S → List ℕ) (told : Option (List (List ℕ))) (place : ℕ) (items new : List S) (text : S) (word : List ℕ)
    → place ≡ length items + 1 → IfSome told (λ words. AreReadSoFar words (map f items)) → IsWordAt told place word → IsUtf8 word
    → f text ≡ word → new ≡ items ++ text ∷ []
    → (place + 1 ≡ length new + 1) × IfSome told (λ words. AreReadSoFar words (map f new))
told_more f told place items new text word at so is utf same pushed =
    (at_next place items new text at pushed, told_words f told place items new text word at so is utf same pushed)
  where
    at_next : {S : Type 0} (place : ℕ) (items new : List S) (text : S) → place ≡ length items + 1 → new ≡ items ++ text ∷ [] → place + 1 ≡ length new + 1
    at_next place items new text at pushed = ap (λ n. n + 1) (at ∙ sym (ap length pushed ∙ length-append items (text ∷ [])))

    told_words : {S : Type 0} (f : S → List ℕ) (told : Option (List (List ℕ))) (place : ℕ) (items new : List S) (text : S) (word : List ℕ)
        → place ≡ length items + 1 → IfSome told (λ words. AreReadSoFar words (map f items)) → IsWordAt told place word → IsUtf8 word
        → f text ≡ word → new ≡ items ++ text ∷ [] → IfSome told (λ words. AreReadSoFar words (map f new))
    told_words f None place items new text word at so is utf same pushed = tt
    told_words f (Some words) place items new text word at so is utf same pushed =
        subst (λ l. AreReadSoFar words l) (sym (ap (map f) pushed ∙ map_push f items text ∙ ap (λ t. map f items ++ t ∷ []) same))
        (so_far_more words (map f items) word so (at_length f words place items word at is) utf)

-- the word that was read, by its length in a buffer
pub word_there : (told : Option (List (List ℕ))) (place : ℕ) (found : Option ℕ) (len : ℕ) (kept seen : List ℕ)
    → IfSome found (λ n. IsWordAt told place (take n kept)) → found ≡ Some len → seen ≡ kept → IsWordAt told place (take len seen)
word_there told place found len kept seen is e same =
    subst (λ (bytes : List ℕ). IsWordAt told place (take len bytes)) (sym same) (subst (λ o. IfSome o (λ n. IsWordAt told place (take n kept))) e is)
