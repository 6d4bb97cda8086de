-- What a line is spelled as is what it reads as.
use Rattle.std.proofs.Common.{◌≡◌, ℕ, suc, ◌+◌, ◌-◌, ◌⊎◌, inl, inr, Bool, true, false, not, cond, List, [], ◌∷◌, ◌++◌, map, length, drop, refl, sym, ap, subst, ◌∙◌, arith, append_assoc, append-nil, length-append, suc-add}
use Rattle.std.specs.List.{list_any, before_first, after_first, position_or_len}
use Rattle.std.proofs.lemmas.List.Folds.{list_any-append}
use Rattle.std.proofs.lemmas.Bool.Decides.{nat_tests}
use Rattle.std.proofs.lemmas.Bool.{or_right}
use Rattle.net_base.specs.Ndb.{NdbPair}
use Rattle.net_base.specs.NdbText.{is_white, is_hash, is_equals, is_quote, begins, is_empty, Word, plain_word, quoted_word, word_of, words_behind, word_pair, pairs_of}
use Rattle.net_base.specs.NdbBundle.{is_nameless}
use Rattle.formats.proofs.NdbPlain.{or_false, or_false_first, or_false_rest, before_first-cons, words-white, words-word, words-hash}
use Rattle.formats.proofs.NdbLists.{before_first-none}
use Rattle.formats.specs.NdbSpelling.{None_of, IsAttr, PairWay, alone, plain, quoted, spelled, Suits, EndsWord, IsPairWord, IsWhite, IsComment, ReadsWords, ReadsLine}

-- Parts of bytes.

-- bytes that end or go on with one that passes
abbrev pub Stops : (ℕ → Bool) → List ℕ → Type 0
Stops p rest = (rest ≡ []) ⊎ (begins p rest ≡ true)

pub before-stop : (p : ℕ → Bool) (rest : List ℕ) → Stops p rest → before_first p rest ≡ []
before-stop p rest (inl e) = ap (before_first p) e
before-stop p [] (inr e) = refl
before-stop p (b ∷ rest) (inr e) = rw e refl

pub before-append : (p : ℕ → Bool) (front rest : List ℕ) → None_of p front → before_first p (front ++ rest) ≡ front ++ before_first p rest
before-append p [] rest none = refl
before-append p (b ∷ front) rest none =
    before_first-cons p b (front ++ rest) (or_false_first (p b) (list_any p front) none)
    ∙ ap (λ (bs : List ℕ). b ∷ bs) (before-append p front rest (or_false_rest (p b) (list_any p front) none))

add_two : (m : ℕ) → 1 + m + 1 ≡ suc (m + 1)
add_two m = omega arith

pub after-cons : (p : ℕ → Bool) (b : ℕ) (bs : List ℕ) → p b ≡ false → after_first p (b ∷ bs) ≡ after_first p bs
after-cons p b bs e = rw e (ap (λ (n : ℕ). drop n (b ∷ bs)) (add_two (position_or_len p bs)))

pub after-append : (p : ℕ → Bool) (front : List ℕ) (b : ℕ) (rest : List ℕ) → None_of p front → p b ≡ true → after_first p (front ++ b ∷ rest) ≡ rest
after-append p [] b rest none e = rw e refl
after-append p (a ∷ front) b rest none e =
    after-cons p a (front ++ b ∷ rest) (or_false_first (p a) (list_any p front) none)
    ∙ after-append p front b rest (or_false_rest (p a) (list_any p front) none) e

pub after-none : (p : ℕ → Bool) (front : List ℕ) → None_of p front → after_first p front ≡ []
after-none p [] none = refl
after-none p (b ∷ front) none =
    after-cons p b front (or_false_first (p b) (list_any p front) none) ∙ after-none p front (or_false_rest (p b) (list_any p front) none)

pub any-behind : (p : ℕ → Bool) (front : List ℕ) (b : ℕ) (rest : List ℕ) → p b ≡ true → list_any p (front ++ b ∷ rest) ≡ true
any-behind p [] b rest e = rw e refl
any-behind p (a ∷ front) b rest e = or_right (p a) _ (any-behind p front b rest e)

pub drop-two : (front : List ℕ) (a b : ℕ) (rest : List ℕ) → drop (length front + 2) (front ++ a ∷ b ∷ rest) ≡ rest
drop-two [] a b rest = refl
drop-two (c ∷ front) a b rest = rw suc-add (drop-two front a b rest)

-- Words.

-- a word without faults that takes these bytes
pub record Takes (word : Word) (pair : NdbPair) (bytes : List ℕ) : Type 0 where
  pub attr : word.attr ≡ pair.attr
  pub value : word.value ≡ pair.value
  pub takes : word.takes ≡ length bytes
  pub unclosed : word.unclosed ≡ false
  pub followed : word.followed ≡ false

takes-as : (v w : Word) (pair : NdbPair) (bytes : List ℕ) → w ≡ v → Takes v pair bytes → Takes w pair bytes
takes-as v w pair bytes e t = subst (λ (x : Word). Takes x pair bytes) (sym e) t

-- the word of bytes whose run is known
abbrev by_run : List ℕ → List ℕ → Word
by_run run bytes =
    cond (begins is_quote (after_first is_equals run)) (quoted_word (before_first is_equals run) (drop (length (before_first is_equals run) + 2) bytes)) (plain_word run)

takes-plain_word : (run bytes : List ℕ) (pair : NdbPair) → begins is_quote (after_first is_equals run) ≡ false → before_first is_equals run ≡ pair.attr → after_first is_equals run ≡ pair.value → Takes (by_run run bytes) pair run
takes-plain_word run bytes pair e ea ev = rw e (record { attr = ea; value = ev; takes = refl; unclosed = refl; followed = refl })

takes-alone : (pair : NdbPair) (rest : List ℕ) → IsAttr pair.attr → pair.value ≡ [] → EndsWord rest → Takes (word_of (pair.attr ++ rest)) pair pair.attr
takes-alone pair rest a v ends =
    let run : before_first is_white (pair.attr ++ rest) ≡ pair.attr =
    before-append is_white pair.attr rest a.white ∙ (ap (λ (bs : List ℕ). pair.attr ++ bs) (before-stop is_white rest ends) ∙ append-nil pair.attr) in
    let after : after_first is_equals pair.attr ≡ [] = after-none is_equals pair.attr a.equals in
    takes-as (by_run pair.attr (pair.attr ++ rest)) (word_of (pair.attr ++ rest)) pair pair.attr (ap (λ (r : List ℕ). by_run r (pair.attr ++ rest)) run)
    (takes-plain_word pair.attr (pair.attr ++ rest) pair (ap (begins is_quote) after) (before_first-none is_equals pair.attr a.equals) (after ∙ sym v))

takes-plain : (pair : NdbPair) (rest : List ℕ) → IsAttr pair.attr → None_of is_white pair.value → begins is_quote pair.value ≡ false → EndsWord rest → Takes (word_of ((pair.attr ++ (61 ∷ pair.value)) ++ rest)) pair (pair.attr ++ (61 ∷ pair.value))
takes-plain pair rest a white quote ends =
    let word : List ℕ = pair.attr ++ (61 ∷ pair.value) in
    let none : None_of is_white word = list_any-append is_white pair.attr (61 ∷ pair.value) ∙ or_false _ _ a.white white in
    let run : before_first is_white (word ++ rest) ≡ word =
    before-append is_white word rest none ∙ (ap (λ (bs : List ℕ). word ++ bs) (before-stop is_white rest ends) ∙ append-nil word) in
    let after : after_first is_equals word ≡ pair.value = after-append is_equals pair.attr 61 pair.value a.equals refl in
    let before : before_first is_equals word ≡ pair.attr = before-append is_equals pair.attr (61 ∷ pair.value) a.equals ∙ append-nil pair.attr in
    takes-as (by_run word (word ++ rest)) (word_of (word ++ rest)) pair word (ap (λ (r : List ℕ). by_run r (word ++ rest)) run)
    (takes-plain_word word (word ++ rest) pair (ap (begins is_quote) after ∙ quote) before after)

-- a quoted word, what stands behind its opening quote being known
takes-quoted_word : (pair : NdbPair) (rest : List ℕ) → None_of is_quote pair.value → EndsWord rest → Takes (quoted_word pair.attr (pair.value ++ 34 ∷ rest)) pair (pair.attr ++ (61 ∷ 34 ∷ (pair.value ++ 34 ∷ [])))
takes-quoted_word pair rest v ends =
    let behind : List ℕ = pair.value ++ 34 ∷ rest in
    let closed : list_any is_quote behind ≡ true = any-behind is_quote pair.value 34 rest refl in
    let value : before_first is_quote behind ≡ pair.value = before-append is_quote pair.value (34 ∷ rest) v ∙ append-nil pair.value in
    let tail : before_first is_white (after_first is_quote behind) ≡ [] =
    ap (before_first is_white) (after-append is_quote pair.value 34 rest v refl) ∙ before-stop is_white rest ends in
    rw closed (record {
      attr = refl;
      value = value;
      takes = omega (arith, ap length value, ap length tail, length-append pair.attr (61 ∷ 34 ∷ (pair.value ++ 34 ∷ [])), length-append pair.value (34 ∷ []));
      unclosed = refl;
      followed = ap (λ (bs : List ℕ). not (is_empty bs)) tail;
    })

takes-quoted : (pair : NdbPair) (rest : List ℕ) → IsAttr pair.attr → None_of is_quote pair.value → EndsWord rest → Takes (word_of ((pair.attr ++ (61 ∷ 34 ∷ (pair.value ++ 34 ∷ []))) ++ rest)) pair (pair.attr ++ (61 ∷ 34 ∷ (pair.value ++ 34 ∷ [])))
takes-quoted pair rest a v ends =
    let word : List ℕ = pair.attr ++ (61 ∷ 34 ∷ (pair.value ++ 34 ∷ [])) in
    let behind : List ℕ = pair.value ++ 34 ∷ rest in
    let run : List ℕ = pair.attr ++ (61 ∷ 34 ∷ before_first is_white behind) in
    let bytes : word ++ rest ≡ pair.attr ++ (61 ∷ 34 ∷ behind) =
    append_assoc pair.attr (61 ∷ 34 ∷ (pair.value ++ 34 ∷ [])) rest ∙ ap (λ (bs : List ℕ). pair.attr ++ (61 ∷ 34 ∷ bs)) (append_assoc pair.value (34 ∷ []) rest) in
    let is_run : before_first is_white (pair.attr ++ (61 ∷ 34 ∷ behind)) ≡ run =
    before-append is_white pair.attr (61 ∷ 34 ∷ behind) a.white
    ∙ ap (λ (bs : List ℕ). pair.attr ++ bs) (before_first-cons is_white 61 (34 ∷ behind) refl ∙ ap (λ (bs : List ℕ). 61 ∷ bs) (before_first-cons is_white 34 behind refl)) in
    let after : begins is_quote (after_first is_equals run) ≡ true = ap (begins is_quote) (after-append is_equals pair.attr 61 (34 ∷ before_first is_white behind) a.equals refl) in
    let before : before_first is_equals run ≡ pair.attr = before-append is_equals pair.attr (61 ∷ 34 ∷ before_first is_white behind) a.equals ∙ append-nil pair.attr in
    let is_word : word_of (word ++ rest) ≡ quoted_word pair.attr behind =
    ap word_of bytes
    ∙ (ap (λ (r : List ℕ). by_run r (pair.attr ++ (61 ∷ 34 ∷ behind))) is_run
    ∙ (ap (λ (b : Bool). cond b (quoted_word (before_first is_equals run) (drop (length (before_first is_equals run) + 2) (pair.attr ++ (61 ∷ 34 ∷ behind)))) (plain_word run)) after
    ∙ (ap (λ (at : List ℕ). quoted_word at (drop (length at + 2) (pair.attr ++ (61 ∷ 34 ∷ behind)))) before
    ∙ ap (quoted_word pair.attr) (drop-two pair.attr 61 34 behind)))) in
    takes-as (quoted_word pair.attr behind) (word_of (word ++ rest)) pair word is_word (takes-quoted_word pair rest v ends)

takes-way : (way : PairWay) (pair : NdbPair) (rest : List ℕ) → IsAttr pair.attr → Suits way pair.value → EndsWord rest → Takes (word_of (spelled way pair ++ rest)) pair (spelled way pair)
takes-way alone pair rest a v ends = takes-alone pair rest a v ends
takes-way plain pair rest a v ends = takes-plain pair rest a v.0 v.1 ends
takes-way quoted pair rest a v ends = takes-quoted pair rest a v ends

pub takes-word : (word : List ℕ) (pair : NdbPair) (rest : List ℕ) → IsPairWord word pair rest → Takes (word_of (word ++ rest)) pair word
takes-word word pair rest w =
    subst (λ (bs : List ℕ). Takes (word_of (bs ++ rest)) pair bs) (sym w.bytes) (takes-way w.way pair rest w.attr w.value w.ends)

-- Lines.

-- words without faults
pub record Faultless (words : List Word) : Type 0 where
  pub unclosed : list_any (λ (word : Word). word.unclosed) words ≡ false
  pub nameless : list_any is_nameless words ≡ false
  pub followed : list_any (λ (word : Word). word.followed) words ≡ false

-- the words behind n bytes have these pairs and no faults
pub record Behind (n : ℕ) (line : List ℕ) (pairs : List NdbPair) : Type 0 where
  pub pairs_are : map word_pair (words_behind n line) ≡ pairs
  pub faultless : Faultless (words_behind n line)

words-spaces : (white rest : List ℕ) → IsWhite white → words_behind 0 (white ++ rest) ≡ words_behind 0 rest
words-spaces [] rest w = refl
words-spaces (b ∷ white) rest w = words-white b (white ++ rest) w.0 ∙ words-spaces white rest w.1

pub words-passed : (front rest : List ℕ) → words_behind (length front) (front ++ rest) ≡ words_behind 0 rest
words-passed [] rest = refl
words-passed (b ∷ front) rest = words-passed front rest

hash_is : (b : ℕ) → is_hash b ≡ true → b ≡ 35
hash_is b e = grind (arith, nat_tests)

words-comment : (rest : List ℕ) → IsComment rest → words_behind 0 rest ≡ []
words-comment rest (inl e) = ap (words_behind 0) e
words-comment [] (inr e) = refl
words-comment (b ∷ rest) (inr e) = words-hash b rest (ap is_white (hash_is b e)) e

-- the first byte of an attribute
pub record First (bytes : List ℕ) : Type 0 where
  pub byte : ℕ
  pub tail : List ℕ
  pub is : bytes ≡ byte ∷ tail
  pub white : is_white byte ≡ false
  pub hash : is_hash byte ≡ false

first-attr : (attr : List ℕ) → IsAttr attr → First attr
first-attr [] a = absurd (omega (arith, a.some))
first-attr (b ∷ bs) a = record { byte = b; tail = bs; is = refl; white = or_false_first (is_white b) (list_any is_white bs) a.white; hash = a.hash }

pub first-way : (way : PairWay) (pair : NdbPair) → IsAttr pair.attr → First (spelled way pair)
first-way alone pair a = first-attr pair.attr a
first-way plain pair a =
    let f = first-attr pair.attr a in
    record { byte = f.byte; tail = f.tail ++ (61 ∷ pair.value); is = ap (λ (bs : List ℕ). bs ++ (61 ∷ pair.value)) f.is; white = f.white; hash = f.hash }
first-way quoted pair a =
    let f = first-attr pair.attr a in
    record { byte = f.byte; tail = f.tail ++ (61 ∷ 34 ∷ (pair.value ++ 34 ∷ [])); is = ap (λ (bs : List ℕ). bs ++ (61 ∷ 34 ∷ (pair.value ++ 34 ∷ []))) f.is; white = f.white; hash = f.hash }

words-first_at : (b : ℕ) (tail rest : List ℕ) → is_white b ≡ false → is_hash b ≡ false → (word_of ((b ∷ tail) ++ rest)).takes ≡ length (b ∷ tail) → words_behind 0 ((b ∷ tail) ++ rest) ≡ word_of ((b ∷ tail) ++ rest) ∷ words_behind 0 rest
words-first_at b tail rest white hash takes =
    let left : (word_of ((b ∷ tail) ++ rest)).takes - 1 ≡ length tail = ap (λ (n : ℕ). n - 1) takes ∙ omega arith in
    words-word b (tail ++ rest) white hash
    ∙ ap (λ (ws : List Word). word_of ((b ∷ tail) ++ rest) ∷ ws) (ap (λ (n : ℕ). words_behind n (tail ++ rest)) left ∙ words-passed tail rest)

-- the words of a line that begins with a word
words-first : (word : List ℕ) (pair : NdbPair) (rest : List ℕ) → IsPairWord word pair rest → words_behind 0 (word ++ rest) ≡ word_of (word ++ rest) ∷ words_behind 0 rest
words-first word pair rest w =
    let f = first-way w.way pair w.attr in
    let e : word ≡ f.byte ∷ f.tail = w.bytes ∙ f.is in
    subst (λ (bs : List ℕ). (word_of (bs ++ rest)).takes ≡ length bs → words_behind 0 (bs ++ rest) ≡ word_of (bs ++ rest) ∷ words_behind 0 rest) (sym e)
    (words-first_at f.byte f.tail rest f.white f.hash) (takes-word word pair rest w).takes

pair_eq : (w : Word) (p : NdbPair) → w.attr ≡ p.attr → w.value ≡ p.value → word_pair w ≡ p
pair_eq w p ea ev =
    let P : List ℕ → List ℕ → NdbPair = λ a v. record { attr = a; value = v } in
    ap (λ (a : List ℕ). P a w.value) ea ∙ ap (λ (v : List ℕ). P p.attr v) ev

named : (attr : List ℕ) → IsAttr attr → is_empty attr ≡ false
named attr a = ap is_empty (first-attr attr a).is

-- the pairs that a line spells are those that it reads as
pub sound : (line : List ℕ) (pairs : List NdbPair) → ReadsWords line pairs → Behind 0 line pairs
sound line [] (white, rest, e, w, comment) =
    let none : words_behind 0 line ≡ [] = ap (words_behind 0) e ∙ (words-spaces white rest w ∙ words-comment rest comment) in
    record { pairs_are = ap (map word_pair) none; faultless = subst Faultless (sym none) (record { unclosed = refl; nameless = refl; followed = refl }) }
sound line (pair ∷ pairs) (white, word, rest, e, w, is, more) =
    let words : words_behind 0 line ≡ word_of (word ++ rest) ∷ words_behind 0 rest = ap (words_behind 0) e ∙ (words-spaces white (word ++ rest) w ∙ words-first word pair rest is) in
    let t = takes-word word pair rest is in
    let others = sound rest pairs more in
    record {
      pairs_are = ap (map word_pair) words
          ∙ (ap (λ (p : NdbPair). p ∷ map word_pair (words_behind 0 rest)) (pair_eq (word_of (word ++ rest)) pair t.attr t.value) ∙ ap (λ (ps : List NdbPair). pair ∷ ps) others.pairs_are);
      faultless = subst Faultless (sym words) (record {
        unclosed = or_false _ _ t.unclosed others.faultless.unclosed;
        nameless = or_false _ _ (ap is_empty t.attr ∙ named pair.attr is.attr) others.faultless.nameless;
        followed = or_false _ _ t.followed others.faultless.followed;
      });
    }

pub line_reads : (line : List ℕ) (pairs : List NdbPair) → ReadsLine line pairs → pairs_of line ≡ pairs
line_reads line pairs r =
    ap (λ (b : Bool). map word_pair (cond b [] (words_behind 0 line))) r.percent ∙ (sound line pairs r.words).pairs_are

-- a line reads in one way at most
pub line_reads_once : (line : List ℕ) (ps qs : List NdbPair) → ReadsLine line ps → ReadsLine line qs → ps ≡ qs
line_reads_once line ps qs p q = sym (line_reads line ps p) ∙ line_reads line qs q
