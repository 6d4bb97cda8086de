-- What a line without faults reads as is what it is spelled as.
use Rattle.std.proofs.Common.{◌≡◌, ℕ, zero, suc, ◌+◌, ◌-◌, ◌<◌, inl, inr, Bool, true, false, not, ◌||◌, cond, List, [], ◌∷◌, ◌++◌, map, length, take, drop, refl, sym, ap, subst, ◌∙◌, arith, append_assoc, length-append}
use Rattle.std.specs.List.{list_any, before_first, after_first, position_or_len}
use Rattle.std.proofs.lemmas.List.{take-append-drop}
use Rattle.std.proofs.lemmas.Bool.Decides.{nat_tests}
use Rattle.std.proofs.lemmas.Bool.{not-false}
use Rattle.net_base.specs.Ndb.{NdbPair}
use Rattle.net_base.specs.NdbText.{is_white, is_hash, is_equals, is_quote, begins, is_empty, Word, plain_word, quoted_word, word_of, words_behind, word_pair}
use Rattle.net_base.specs.NdbBundle.{is_nameless}
use Rattle.formats.proofs.NdbPlain.{or_false, or_false_first, or_false_rest, one_add, none-take, none-drop, before_first-cons, words-white, words-word, words-hash}
use Rattle.formats.proofs.NdbLists.{before_first-none}
use Rattle.formats.specs.NdbSpelling.{None_of, IsAttr, alone, plain, quoted, IsPairWord, ReadsWords}
use Rattle.formats.proofs.NdbSound.{Stops, after-none, after-cons, drop-two, words-passed, Faultless, first-way}

-- Parts of bytes.

-- no byte passes before the first that does
none-before_if : (p : ℕ → Bool) (b : ℕ) (bs : List ℕ) (v : Bool) → p b ≡ v → None_of p (before_first p bs) → None_of p (before_first p (b ∷ bs))
none-before_if p b bs true e h = rw e refl
none-before_if p b bs false e h = ap (list_any p) (before_first-cons p b bs e) ∙ or_false _ _ e h

none-before : (p : ℕ → Bool) (bs : List ℕ) → None_of p (before_first p bs)
none-before p [] = refl
none-before p (b ∷ bs) = none-before_if p b bs _ refl (none-before p bs)

stops-behind_if : (p : ℕ → Bool) (b : ℕ) (bs : List ℕ) (v : Bool) → p b ≡ v → Stops p (drop (position_or_len p bs) bs) → Stops p (drop (position_or_len p (b ∷ bs)) (b ∷ bs))
stops-behind_if p b bs true e h = rw e (inr e)
stops-behind_if p b bs false e h = rw (e, one_add) h

stops-behind : (p : ℕ → Bool) (bs : List ℕ) → Stops p (drop (position_or_len p bs) bs)
stops-behind p [] = inl refl
stops-behind p (b ∷ bs) = stops-behind_if p b bs _ refl (stops-behind p bs)

equals_is : (b : ℕ) → is_equals b ≡ true → b ≡ 61
equals_is b e = grind (arith, nat_tests)

quote_is : (b : ℕ) → is_quote b ≡ true → b ≡ 34
quote_is b e = grind (arith, nat_tests)

-- bytes around the first that passes
around_if : (p : ℕ → Bool) (n : ℕ) → ((b : ℕ) → p b ≡ true → b ≡ n) → (b : ℕ) (bs : List ℕ) (v : Bool) → p b ≡ v → (v || list_any p bs) ≡ true → (list_any p bs ≡ true → bs ≡ before_first p bs ++ n ∷ after_first p bs) → b ∷ bs ≡ before_first p (b ∷ bs) ++ n ∷ after_first p (b ∷ bs)
around_if p n is b bs true e some h = rw e (ap (λ (x : ℕ). x ∷ bs) (is b e))
around_if p n is b bs false e some h =
    ap (λ (xs : List ℕ). b ∷ xs) (h some)
    ∙ sym (ap (λ (xs : List ℕ). xs ++ n ∷ after_first p (b ∷ bs)) (before_first-cons p b bs e) ∙ ap (λ (xs : List ℕ). b ∷ (before_first p bs ++ n ∷ xs)) (after-cons p b bs e))

around : (p : ℕ → Bool) (n : ℕ) → ((b : ℕ) → p b ≡ true → b ≡ n) → (bs : List ℕ) → list_any p bs ≡ true → bs ≡ before_first p bs ++ n ∷ after_first p bs
around p n is [] some = cc
around p n is (b ∷ bs) some = around_if p n is b bs (p b) refl some (around p n is bs)

begins-take : (p : ℕ → Bool) (n : ℕ) (bs : List ℕ) → begins p bs ≡ false → begins p (take n bs) ≡ false
begins-take p zero bs h = refl
begins-take p (suc n) [] h = refl
begins-take p (suc n) (b ∷ bs) h = h

begins-some : (p : ℕ → Bool) (bs : List ℕ) → begins p bs ≡ true → (b : ℕ) × (tail : List ℕ) × (bs ≡ b ∷ tail) × (p b ≡ true)
begins-some p [] h = cc
begins-some p (b ∷ bs) h = (b, bs, refl, h)

empty_is : (bs : List ℕ) → is_empty bs ≡ true → bs ≡ []
empty_is [] h = refl
empty_is (b ∷ bs) h = cc

pub some_of : (bs : List ℕ) → is_empty bs ≡ false → 0 < length bs
some_of [] h = cc
some_of (b ∷ bs) h = omega arith

pub cons_none : {X : Type 0} {x : X} {xs : List X} → x ∷ xs ≡ [] → ⊥
cons_none h = cc

pub false_true : false ≡ true → ⊥
false_true h = cc

stops-empty_if : (p : ℕ → Bool) (b : ℕ) (bs : List ℕ) (v : Bool) → p b ≡ v → before_first p (b ∷ bs) ≡ [] → Stops p (b ∷ bs)
stops-empty_if p b bs true e h = inr e
stops-empty_if p b bs false e h = absurd (cons_none (sym (before_first-cons p b bs e) ∙ h))

stops-empty : (p : ℕ → Bool) (bs : List ℕ) → before_first p bs ≡ [] → Stops p bs
stops-empty p [] h = inl refl
stops-empty p (b ∷ bs) h = stops-empty_if p b bs _ refl h

some-behind_if : (q : ℕ → Bool) (xs : List ℕ) (v : Bool) → list_any q xs ≡ v → begins is_quote (after_first q xs) ≡ true → list_any q xs ≡ true
some-behind_if q xs true e h = e
some-behind_if q xs false e h = absurd (false_true (sym (ap (begins is_quote) (after-none q xs e)) ∙ h))

-- Words.

-- the word at the front of bytes
pub record Front (bytes : List ℕ) (word : Word) : Type 0 where
  pub spelling : List ℕ
  pub rest : List ℕ
  pub bytes_are : bytes ≡ spelling ++ rest
  pub is_word : IsPairWord spelling (word_pair word) rest
  pub takes : word.takes ≡ length spelling

attr-front : (bytes : List ℕ) → begins is_hash bytes ≡ false → is_empty (before_first is_equals (before_first is_white bytes)) ≡ false → IsAttr (before_first is_equals (before_first is_white bytes))
attr-front bytes hash named = record {
  some = some_of _ named;
  white = none-take is_white (position_or_len is_equals (before_first is_white bytes)) (before_first is_white bytes) (none-before is_white bytes);
  equals = none-before is_equals (before_first is_white bytes);
  hash = begins-take is_hash (position_or_len is_equals (before_first is_white bytes)) (before_first is_white bytes) (begins-take is_hash (position_or_len is_white bytes) bytes hash);
}

plain-is_word : (bytes : List ℕ) (u : Bool) → list_any is_equals (before_first is_white bytes) ≡ u → begins is_quote (after_first is_equals (before_first is_white bytes)) ≡ false → IsAttr (before_first is_equals (before_first is_white bytes)) → IsPairWord (before_first is_white bytes) (word_pair (plain_word (before_first is_white bytes))) (drop (position_or_len is_white bytes) bytes)
plain-is_word bytes true e v a = record {
  way = plain;
  bytes = around is_equals 61 equals_is (before_first is_white bytes) e;
  attr = a;
  value = (none-drop is_white (position_or_len is_equals (before_first is_white bytes) + 1) (before_first is_white bytes) (none-before is_white bytes), v);
  ends = stops-behind is_white bytes;
}
plain-is_word bytes false e v a = record {
  way = alone;
  bytes = sym (before_first-none is_equals (before_first is_white bytes) e);
  attr = a;
  value = after-none is_equals (before_first is_white bytes) e;
  ends = stops-behind is_white bytes;
}

-- what stands behind the opening quote of the first word
abbrev behind_quote : List ℕ → List ℕ
behind_quote bytes = drop (length (before_first is_equals (before_first is_white bytes)) + 2) bytes

-- the word of bytes by whether its value begins with a quote
abbrev by_quote : List ℕ → Bool → Word
by_quote bytes v =
    cond v (quoted_word (before_first is_equals (before_first is_white bytes)) (behind_quote bytes)) (plain_word (before_first is_white bytes))

-- the word whose quote is closed, and the one whose quote isn't
abbrev closed_word : List ℕ → List ℕ → Word
closed_word attr behind = record {
  attr = attr;
  value = before_first is_quote behind;
  takes = length attr + 2 + length (before_first is_quote behind) + 1 + length (before_first is_white (after_first is_quote behind));
  unclosed = false;
  followed = not (is_empty (before_first is_white (after_first is_quote behind)));
}

abbrev open_word : List ℕ → List ℕ → Word
open_word attr behind = record { attr = attr; value = behind; takes = length attr + 2 + length behind; unclosed = true; followed = false }

quoted-named : (attr behind : List ℕ) (c : Bool) → is_nameless (cond c (closed_word attr behind) (open_word attr behind)) ≡ false → is_empty attr ≡ false
quoted-named attr behind true h = h
quoted-named attr behind false h = h

-- the bytes of a quoted word
quoted-bytes : (bytes : List ℕ) → begins is_quote (after_first is_equals (before_first is_white bytes)) ≡ true → bytes ≡ before_first is_equals (before_first is_white bytes) ++ (61 ∷ 34 ∷ behind_quote bytes)
quoted-bytes bytes e =
    let run : List ℕ = before_first is_white bytes in
    let attr : List ℕ = before_first is_equals run in
    let rest : List ℕ = drop (position_or_len is_white bytes) bytes in
    let q = begins-some is_quote (after_first is_equals run) e in
    let after : after_first is_equals run ≡ 34 ∷ q.1 = q.2 ∙ ap (λ (b : ℕ). b ∷ q.1) (quote_is q.0 q.3) in
    let is_run : run ≡ attr ++ (61 ∷ 34 ∷ q.1) = around is_equals 61 equals_is run (some-behind_if is_equals run _ refl e) ∙ ap (λ (xs : List ℕ). attr ++ (61 ∷ xs)) after in
    let whole : bytes ≡ attr ++ (61 ∷ 34 ∷ (q.1 ++ rest)) =
    sym (take-append-drop (position_or_len is_white bytes) bytes) ∙ (ap (λ (xs : List ℕ). xs ++ rest) is_run ∙ append_assoc attr (61 ∷ 34 ∷ q.1) rest) in
    let behind : behind_quote bytes ≡ q.1 ++ rest = ap (drop (length attr + 2)) whole ∙ drop-two attr 61 34 (q.1 ++ rest) in
    whole ∙ ap (λ (xs : List ℕ). attr ++ (61 ∷ 34 ∷ xs)) (sym behind)

front-plain_if : (bytes : List ℕ) (u : Bool) → list_any is_equals (before_first is_white bytes) ≡ u → begins is_quote (after_first is_equals (before_first is_white bytes)) ≡ false → IsAttr (before_first is_equals (before_first is_white bytes)) → Front bytes (plain_word (before_first is_white bytes))
front-plain_if bytes u e v a =
    let run : List ℕ = before_first is_white bytes in
    record {
      spelling = run;
      rest = drop (position_or_len is_white bytes) bytes;
      bytes_are = sym (take-append-drop (position_or_len is_white bytes) bytes);
      is_word = plain-is_word bytes u e v a;
      takes = refl;
    }

front-closed_if : (bytes attr behind : List ℕ) (c : Bool) → list_any is_quote behind ≡ c → bytes ≡ attr ++ (61 ∷ 34 ∷ behind) → IsAttr attr → (cond c (closed_word attr behind) (open_word attr behind)).unclosed ≡ false → (cond c (closed_word attr behind) (open_word attr behind)).followed ≡ false → Front bytes (cond c (closed_word attr behind) (open_word attr behind))
front-closed_if bytes attr behind false e is a unclosed followed = absurd (false_true (sym unclosed))
front-closed_if bytes attr behind true e is a unclosed followed =
    let value : List ℕ = before_first is_quote behind in
    let rest : List ℕ = after_first is_quote behind in
    let split : behind ≡ value ++ 34 ∷ rest = around is_quote 34 quote_is behind e in
    let tail : before_first is_white rest ≡ [] = empty_is (before_first is_white rest) (not-false (is_empty (before_first is_white rest)) followed) in
    record {
      spelling = attr ++ (61 ∷ 34 ∷ (value ++ 34 ∷ []));
      rest = rest;
      bytes_are = is ∙ (ap (λ (xs : List ℕ). attr ++ (61 ∷ 34 ∷ xs)) (split ∙ sym (append_assoc value (34 ∷ []) rest)) ∙ sym (append_assoc attr (61 ∷ 34 ∷ (value ++ 34 ∷ [])) rest));
      is_word = record { way = quoted; bytes = refl; attr = a; value = none-before is_quote behind; ends = stops-empty is_white rest tail };
      takes = omega (arith, ap length tail, length-append attr (61 ∷ 34 ∷ (value ++ 34 ∷ [])), length-append value (34 ∷ []));
    }

front-by : (bytes : List ℕ) (v : Bool) → begins is_quote (after_first is_equals (before_first is_white bytes)) ≡ v → begins is_hash bytes ≡ false
    → (by_quote bytes v).unclosed ≡ false → is_nameless (by_quote bytes v) ≡ false → (by_quote bytes v).followed ≡ false → Front bytes (by_quote bytes v)
front-by bytes false e hash unclosed nameless followed =
    front-plain_if bytes _ refl e (attr-front bytes hash nameless)
front-by bytes true e hash unclosed nameless followed =
    front-closed_if bytes (before_first is_equals (before_first is_white bytes)) (behind_quote bytes) _ refl (quoted-bytes bytes e)
    (attr-front bytes hash (quoted-named (before_first is_equals (before_first is_white bytes)) (behind_quote bytes) _ nameless)) unclosed followed

-- the word at the front of bytes that begin with one
pub front-word : (bytes : List ℕ) → begins is_hash bytes ≡ false → (word_of bytes).unclosed ≡ false → is_nameless (word_of bytes) ≡ false → (word_of bytes).followed ≡ false → Front bytes (word_of bytes)
front-word bytes hash unclosed nameless followed = front-by bytes _ refl hash unclosed nameless followed

-- Lines.

-- white space before words
spaced : (b : ℕ) (line : List ℕ) (pairs : List NdbPair) → is_white b ≡ true → ReadsWords line pairs → ReadsWords (b ∷ line) pairs
spaced b line [] e (white, rest, is, w, c) = (b ∷ white, rest, ap (λ (xs : List ℕ). b ∷ xs) is, (e, w), c)
spaced b line (p ∷ ps) e (white, word, rest, is, w, i, more) = (b ∷ white, word, rest, ap (λ (xs : List ℕ). b ∷ xs) is, (e, w), i, more)

complete-none_if : (b : ℕ) (bs : List ℕ) (w h : Bool) → is_white b ≡ w → is_hash b ≡ h → (words_behind 0 bs ≡ [] → ReadsWords bs []) → words_behind 0 (b ∷ bs) ≡ [] → ReadsWords (b ∷ bs) []
complete-none_if b bs true h ew eh rest e = spaced b bs [] ew (rest (sym (words-white b bs ew) ∙ e))
complete-none_if b bs false true ew eh rest e = ([], b ∷ bs, refl, tt, inr eh)
complete-none_if b bs false false ew eh rest e = absurd (cons_none (sym (words-word b bs ew eh) ∙ e))

complete-none : (line : List ℕ) → words_behind 0 line ≡ [] → ReadsWords line []
complete-none [] e = ([], [], refl, tt, inl refl)
complete-none (b ∷ bs) e = complete-none_if b bs _ _ refl refl (complete-none bs) e

-- the first word is w, and the rest reads as the others
complete-word : (w : Word) (ws : List Word) → ((rest : List ℕ) → words_behind 0 rest ≡ ws → ReadsWords rest (map word_pair ws)) → w.unclosed ≡ false → is_nameless w ≡ false → w.followed ≡ false → (b : ℕ) (bs : List ℕ) → is_hash b ≡ false → word_of (b ∷ bs) ≡ w → words_behind ((word_of (b ∷ bs)).takes - 1) bs ≡ ws → ReadsWords (b ∷ bs) (word_pair w ∷ map word_pair ws)
complete-word w ws next unclosed nameless followed b bs hash first others =
    let f = front-word (b ∷ bs) hash (ap (λ (x : Word). x.unclosed) first ∙ unclosed) (ap is_nameless first ∙ nameless) (ap (λ (x : Word). x.followed) first ∙ followed) in
    let s = first-way f.is_word.way (word_pair (word_of (b ∷ bs))) f.is_word.attr in
    let spelling : f.spelling ≡ s.byte ∷ s.tail = f.is_word.bytes ∙ s.is in
    let whole : b ∷ bs ≡ s.byte ∷ (s.tail ++ f.rest) = f.bytes_are ∙ ap (λ (xs : List ℕ). xs ++ f.rest) spelling in
    let bytes : bs ≡ s.tail ++ f.rest = cc in
    let left : (word_of (b ∷ bs)).takes - 1 ≡ length s.tail = ap (λ (n : ℕ). n - 1) (f.takes ∙ ap length spelling) ∙ omega arith in
    let rest : words_behind 0 f.rest ≡ ws =
    sym (words-passed s.tail f.rest) ∙ (ap (λ (xs : List ℕ). words_behind (length s.tail) xs) (sym bytes) ∙ (ap (λ (n : ℕ). words_behind n bs) (sym left) ∙ others)) in
    ([], f.spelling, f.rest, f.bytes_are, tt, subst (λ (x : Word). IsPairWord f.spelling (word_pair x) f.rest) first f.is_word, next f.rest rest)

complete-cons_if : (w : Word) (ws : List Word) → ((rest : List ℕ) → words_behind 0 rest ≡ ws → ReadsWords rest (map word_pair ws)) → w.unclosed ≡ false → is_nameless w ≡ false → w.followed ≡ false → (b : ℕ) (bs : List ℕ) (v h : Bool) → is_white b ≡ v → is_hash b ≡ h → (words_behind 0 bs ≡ w ∷ ws → ReadsWords bs (word_pair w ∷ map word_pair ws)) → words_behind 0 (b ∷ bs) ≡ w ∷ ws → ReadsWords (b ∷ bs) (word_pair w ∷ map word_pair ws)
complete-cons_if w ws next unclosed nameless followed b bs true h ev eh more e =
    spaced b bs (word_pair w ∷ map word_pair ws) ev (more (sym (words-white b bs ev) ∙ e))
complete-cons_if w ws next unclosed nameless followed b bs false true ev eh more e =
    absurd (cons_none (sym e ∙ words-hash b bs ev eh))
complete-cons_if w ws next unclosed nameless followed b bs false false ev eh more e =
    let both : word_of (b ∷ bs) ∷ words_behind ((word_of (b ∷ bs)).takes - 1) bs ≡ w ∷ ws = sym (words-word b bs ev eh) ∙ e in
    complete-word w ws next unclosed nameless followed b bs eh (cc) (cc)

complete-cons : (w : Word) (ws : List Word) → ((rest : List ℕ) → words_behind 0 rest ≡ ws → ReadsWords rest (map word_pair ws)) → w.unclosed ≡ false → is_nameless w ≡ false → w.followed ≡ false → (line : List ℕ) → words_behind 0 line ≡ w ∷ ws → ReadsWords line (word_pair w ∷ map word_pair ws)
complete-cons w ws next unclosed nameless followed [] e = absurd (cons_none (sym e))
complete-cons w ws next unclosed nameless followed (b ∷ bs) e =
    complete-cons_if w ws next unclosed nameless followed b bs _ _ refl refl (complete-cons w ws next unclosed nameless followed bs) e

-- words without faults are spelled by their line
pub complete : (words : List Word) (line : List ℕ) → words_behind 0 line ≡ words → Faultless words → ReadsWords line (map word_pair words)
complete [] line e f = complete-none line e
complete (w ∷ ws) line e f =
    complete-cons w ws
    (λ rest r. complete ws rest r (record {
      unclosed = or_false_rest w.unclosed (list_any (λ (word : Word). word.unclosed) ws) f.unclosed;
      nameless = or_false_rest (is_nameless w) (list_any is_nameless ws) f.nameless;
      followed = or_false_rest w.followed (list_any (λ (word : Word). word.followed) ws) f.followed;
    }))
    (or_false_first w.unclosed (list_any (λ (word : Word). word.unclosed) ws) f.unclosed)
    (or_false_first (is_nameless w) (list_any is_nameless ws) f.nameless)
    (or_false_first w.followed (list_any (λ (word : Word). word.followed) ws) f.followed)
    line e
