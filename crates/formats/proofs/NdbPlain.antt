-- A line without a quote has the words that white space parts.
use Rattle.std.proofs.Common.{◌≡◌, ℕ, zero, suc, ◌+◌, ◌-◌, Bool, true, false, not, ◌||◌, cond, List, [], ◌∷◌, map, take, drop, refl, sym, ap, subst, ◌∙◌, arith, rules}
use Rattle.std.specs.List.{list_any, filter, slice_split, before_first, after_first, take_while, position_or_len, onto_first}
use Rattle.std.proofs.lemmas.List.Folds.{length-prefix_len}
use Rattle.std.proofs.lemmas.List.Splits.{slice_split-cons_no, slice_split-cons_yes}
use Rattle.net_base.specs.NdbText.{is_white, is_hash, is_percent, is_equals, is_quote, begins, is_empty, Word, plain_word, word_of, words_behind, words_of, plain_words_of}

-- a first byte that doesn't pass, and the rest, where none passes
pub or_false_first : (a b : Bool) → (a || b) ≡ false → a ≡ false
or_false_first true b h = h
or_false_first false b h = refl

pub or_false_rest : (a b : Bool) → (a || b) ≡ false → b ≡ false
or_false_rest true b h = search rules
or_false_rest false b h = h

pub or_false : (a b : Bool) → a ≡ false → b ≡ false → (a || b) ≡ false
or_false true b e f = e
or_false false b e f = f

pub one_add : (m : ℕ) → 1 + m ≡ suc m
one_add m = omega arith

-- no byte passes in a part of bytes where none does
pub none-take : (p : ℕ → Bool) (n : ℕ) (xs : List ℕ) → list_any p xs ≡ false → list_any p (take n xs) ≡ false
none-take p zero xs h = refl
none-take p (suc n) [] h = refl
none-take p (suc n) (x ∷ xs) h =
    or_false _ _ (or_false_first (p x) (list_any p xs) h) (none-take p n xs (or_false_rest (p x) (list_any p xs) h))

pub none-drop : (p : ℕ → Bool) (n : ℕ) (xs : List ℕ) → list_any p xs ≡ false → list_any p (drop n xs) ≡ false
none-drop p zero xs h = h
none-drop p (suc n) [] h = refl
none-drop p (suc n) (x ∷ xs) h = none-drop p n xs (or_false_rest (p x) (list_any p xs) h)

none-begins : (p : ℕ → Bool) (xs : List ℕ) → list_any p xs ≡ false → begins p xs ≡ false
none-begins p [] h = refl
none-begins p (x ∷ xs) h = or_false_first (p x) (list_any p xs) h

-- the first part of a split and the others, and the same from the end of the first part on
record Front (p : ℕ → Bool) (bs : List ℕ) (others : List (List ℕ)) : Type 0 where
  whole : slice_split p bs ≡ before_first p bs ∷ others
  behind : slice_split p (drop (position_or_len p bs) bs) ≡ [] ∷ others

-- the first part goes on where a byte doesn't pass
pub before_first-cons : (p : ℕ → Bool) (b : ℕ) (bs : List ℕ) → p b ≡ false → before_first p (b ∷ bs) ≡ b ∷ before_first p bs
before_first-cons p b bs e = rw (e, one_add) refl

front_if : (p : ℕ → Bool) (b : ℕ) (bs : List ℕ) (v : Bool) → p b ≡ v → (others : List (List ℕ)) × Front p bs others → (others : List (List ℕ)) × Front p (b ∷ bs) others
front_if p b bs true e rest = (slice_split p bs, record { whole = rw e refl; behind = rw (e, e) refl })
front_if p b bs false e (others, f) = (
  others,
  record {
    whole = rw (e, one_add) (ap (onto_first b) f.whole);
    behind = rw (e, one_add) f.behind;
  },
)

front : (p : ℕ → Bool) (bs : List ℕ) → (others : List (List ℕ)) × Front p bs others
front p [] = ([], record { whole = refl; behind = refl })
front p (b ∷ bs) = front_if p b bs _ refl (front p bs)

-- the runs among the parts of a line
abbrev pub runs_in : List (List ℕ) → List (List ℕ)
runs_in parts = take_while (λ run. not (begins is_hash run)) (filter (λ run. not (is_empty run)) parts)

-- a word of bytes without a quote is plain
word-plain : (bytes : List ℕ) → list_any is_quote bytes ≡ false → word_of bytes ≡ plain_word (before_first is_white bytes)
word-plain bytes h =
    let run : List ℕ = before_first is_white bytes in
    let none = none-begins is_quote (after_first is_equals run) (none-drop is_quote (position_or_len is_equals run + 1) run (none-take is_quote (position_or_len is_white bytes) bytes h)) in
    rw none refl

pub runs-run : (b : ℕ) (bs : List ℕ) (parts : List (List ℕ)) → is_hash b ≡ false → runs_in ((b ∷ bs) ∷ parts) ≡ (b ∷ bs) ∷ runs_in parts
runs-run b bs parts e = rw (e, one_add) refl

pub runs-hash : (b : ℕ) (bs : List ℕ) (parts : List (List ℕ)) → is_hash b ≡ true → runs_in ((b ∷ bs) ∷ parts) ≡ []
runs-hash b bs parts e = rw e refl

pub words-word : (b : ℕ) (bytes : List ℕ) → is_white b ≡ false → is_hash b ≡ false → words_behind 0 (b ∷ bytes) ≡ word_of (b ∷ bytes) ∷ words_behind ((word_of (b ∷ bytes)).takes - 1) bytes
words-word b bytes e f =
    subst (λ (w : Bool). elim w [ true ↦ words_behind 0 bytes | false ↦ elim (is_hash b) [ true ↦ [] | false ↦ word_of (b ∷ bytes) ∷ words_behind ((word_of (b ∷ bytes)).takes - 1) bytes ] ] ≡ word_of (b ∷ bytes) ∷ words_behind ((word_of (b ∷ bytes)).takes - 1) bytes) (sym e)
    (subst (λ (w : Bool). elim w [ true ↦ [] | false ↦ word_of (b ∷ bytes) ∷ words_behind ((word_of (b ∷ bytes)).takes - 1) bytes ] ≡ word_of (b ∷ bytes) ∷ words_behind ((word_of (b ∷ bytes)).takes - 1) bytes) (sym f) refl)

pub words-hash : (b : ℕ) (bytes : List ℕ) → is_white b ≡ false → is_hash b ≡ true → words_behind 0 (b ∷ bytes) ≡ []
words-hash b bytes e f = rw (words_behind, e, words_behind, f) refl

pub words-white : (b : ℕ) (bytes : List ℕ) → is_white b ≡ true → words_behind 0 (b ∷ bytes) ≡ words_behind 0 bytes
words-white b bytes e = rw (words_behind, e) refl

split-run : (b : ℕ) (bytes : List ℕ) (others : List (List ℕ)) → is_white b ≡ false → Front is_white bytes others → slice_split is_white (b ∷ bytes) ≡ (b ∷ before_first is_white bytes) ∷ others
split-run b bytes others e f = slice_split-cons_no is_white b bytes e ∙ ap (onto_first b) f.whole

-- a word that isn't a comment, and the words behind it
word_step : (b : ℕ) (bytes : List ℕ) (others : List (List ℕ)) → is_white b ≡ false → is_hash b ≡ false → list_any is_quote (b ∷ bytes) ≡ false → Front is_white bytes others → ((n : ℕ) → words_behind n bytes ≡ map plain_word (runs_in (slice_split is_white (drop n bytes)))) → words_behind 0 (b ∷ bytes) ≡ map plain_word (runs_in (slice_split is_white (b ∷ bytes)))
word_step b bytes others e f h front rest =
    let run : List ℕ = before_first is_white bytes in
    let m : ℕ = position_or_len is_white bytes in
    let is_word : word_of (b ∷ bytes) ≡ plain_word (b ∷ run) = word-plain (b ∷ bytes) h ∙ ap plain_word (before_first-cons is_white b bytes e) in
    let takes : (word_of (b ∷ bytes)).takes - 1 ≡ m =
    ap (λ (w : Word). w.takes - 1) is_word ∙ omega (arith, length-prefix_len (λ x. not (is_white x)) bytes) in
    let left : words_behind m bytes ≡ map plain_word (runs_in others) =
    rest m ∙ ap (λ (parts : List (List ℕ)). map plain_word (runs_in parts)) front.behind in
    let right : map plain_word (runs_in (slice_split is_white (b ∷ bytes))) ≡ plain_word (b ∷ run) ∷ map plain_word (runs_in others) =
    ap (λ (parts : List (List ℕ)). map plain_word (runs_in parts)) (split-run b bytes others e front)
    ∙ ap (map plain_word) (runs-run b run others f) in
    words-word b bytes e f
    ∙ (ap (λ (n : ℕ). word_of (b ∷ bytes) ∷ words_behind n bytes) takes
    ∙ (ap (λ (w : Word). w ∷ words_behind m bytes) is_word
    ∙ (ap (λ (ws : List Word). plain_word (b ∷ run) ∷ ws) left ∙ sym right)))

words_if : (b : ℕ) (bytes : List ℕ) (white hash : Bool) → is_white b ≡ white → is_hash b ≡ hash → list_any is_quote (b ∷ bytes) ≡ false → ((n : ℕ) → words_behind n bytes ≡ map plain_word (runs_in (slice_split is_white (drop n bytes)))) → words_behind 0 (b ∷ bytes) ≡ map plain_word (runs_in (slice_split is_white (b ∷ bytes)))
words_if b bytes true hash e f h rest = words-white b bytes e ∙ (rest 0 ∙ sym (ap (λ (parts : List (List ℕ)). map plain_word (runs_in parts)) (slice_split-cons_yes is_white b bytes e)))
words_if b bytes false true e f h rest =
    let front = front is_white bytes in
    words-hash b bytes e f
    ∙ sym (ap (λ (parts : List (List ℕ)). map plain_word (runs_in parts)) (split-run b bytes front.0 e front.1)
    ∙ ap (map plain_word) (runs-hash b (before_first is_white bytes) front.0 f))
words_if b bytes false false e f h rest =
    let front = front is_white bytes in
    word_step b bytes front.0 e f h front.1 rest

-- the words behind n bytes of a line without a quote are its runs there
pub words-plain : (n : ℕ) (line : List ℕ) → list_any is_quote line ≡ false → words_behind n line ≡ map plain_word (runs_in (slice_split is_white (drop n line)))
words-plain zero [] h = refl
words-plain (suc n) [] h = refl
words-plain (suc n) (b ∷ bytes) h = words-plain n bytes (or_false_rest (is_quote b) (list_any is_quote bytes) h)
words-plain zero (b ∷ bytes) h =
    words_if b bytes _ _ refl refl h (λ n. words-plain n bytes (or_false_rest (is_quote b) (list_any is_quote bytes) h))

-- a line without a quote has the words that white space parts
pub words_of-plain : (line : List ℕ) → list_any is_quote line ≡ false → words_of line ≡ plain_words_of line
words_of-plain line h = ap (λ (words : List Word). cond (begins is_percent line) [] words) (words-plain 0 line h)
