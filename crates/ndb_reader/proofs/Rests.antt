-- A line that is read word by word.
use Rattle.std.proofs.Common.{◌≡◌, ℕ, zero, suc, ◌+◌, ◌-◌, ◌<◌, ◌≤◌, ◌≢◌, Bool, true, false, not, ◌||◌, cond, List, [], ◌∷◌, map, length, take, drop, get_or, refl, sym, ap, ◌∙◌, arith, append_assoc, append-nil, length-take, length-drop}
use Rattle.std.specs.List.{list_any, position_or_len, before_first, after_first}
use Rattle.std.proofs.Math.Seq.{drop-drop, take-take}
use Rattle.std.proofs.Math.ListN.{drop_of_length-le}
use Rattle.std.proofs.lemmas.List.Sums.{prefix_len-le-length}
use Rattle.std.proofs.lemmas.Bool.Decides.{nat_tests}
use Rattle.net_base.specs.Ndb.{NdbPair}
use Rattle.net_base.specs.NdbText.{is_white, is_hash, is_equals, is_quote, is_empty, begins, Word, plain_word, quoted_word, word_of, words_behind, word_pair}
use Rattle.formats.proofs.Shared.{before_first-cons, words-word, words-hash, words-white}
use Rattle.ndb_reader.specs.declared.words.Word.{Word as Kept}
use Rattle.ndb_reader.specs.declared.words.Words.{Words}
use Rattle.ndb_reader.specs.Told.{IsWordRead, AreWords}
use Rattle.net_base.specs.NdbBundle.{is_nameless}
use Rattle.net_base.specs.Store.{Grown, with_pair, with_pairs}
use Rattle.net_base.proofs.Shared.{or_none, or_true}

-- the words behind so many bytes are those of what is left then
behind-dropped : (n : ℕ) (line : List ℕ) → words_behind n line ≡ words_behind 0 (drop n line)
behind-dropped zero line = refl
behind-dropped (suc n) [] = refl
behind-dropped (suc n) (b ∷ bytes) = behind-dropped n bytes

quoted-some : (attr behind : List ℕ) (closed : Bool) → list_any is_quote behind ≡ closed → 0 < (quoted_word attr behind).takes
quoted-some attr behind true e = rw e (omega arith)
quoted-some attr behind false e = rw e (omega arith)

word-some : (run bytes : List ℕ) (q : Bool) → 0 < length run → 0 < (cond q (quoted_word (before_first is_equals run) (drop (length (before_first is_equals run) + 2) bytes)) (plain_word run)).takes
word-some run bytes true some = quoted-some (before_first is_equals run) (drop (length (before_first is_equals run) + 2) bytes) _ refl
word-some run bytes false some = some

-- a word takes some bytes
takes-some : (b : ℕ) (bytes : List ℕ) → is_white b ≡ false → 0 < (word_of (b ∷ bytes)).takes
takes-some b bytes black =
    let some : 0 < length (before_first is_white (b ∷ bytes)) = omega (arith, ap length (before_first-cons is_white b bytes black)) in
    word-some (before_first is_white (b ∷ bytes)) (b ∷ bytes) (begins is_quote (after_first is_equals (before_first is_white (b ∷ bytes)))) some

drop-one : (n b : ℕ) (bytes : List ℕ) → 0 < n → drop (n - 1) bytes ≡ drop n (b ∷ bytes)
drop-one zero b bytes some = absurd (omega arith)
drop-one (suc n) b bytes some = let e : suc n - 1 ≡ n = omega arith in ap (λ k. drop k bytes) e

-- what is still to come of a line's words, and of their pairs
pub record Parsed (old now : Grown) (line : List ℕ) (kept : Words) (rest : List ℕ) : Type 0 where
  pub pairs : with_pairs (map word_pair (words_behind 0 line)) old ≡ with_pairs (map word_pair (words_behind 0 rest)) now
  pub some : not (is_empty (words_behind 0 line)) ≡ (kept.some || not (is_empty (words_behind 0 rest)))
  pub nameless : list_any is_nameless (words_behind 0 line) ≡ (kept.nameless || list_any is_nameless (words_behind 0 rest))
  pub unclosed : list_any (λ (word : Word). word.unclosed) (words_behind 0 line) ≡ (kept.unclosed || list_any (λ (word : Word). word.unclosed) (words_behind 0 rest))
  pub followed : list_any (λ (word : Word). word.followed) (words_behind 0 line) ≡ (kept.followed || list_any (λ (word : Word). word.followed) (words_behind 0 rest))

or-nothing : (a b : Bool) → a ≡ false → b ≡ (a || b)
or-nothing true b e = absurd cc
or-nothing false b e = refl

or-three : (a b c : Bool) → (a || (b || c)) ≡ ((a || b) || c)
or-three true b c = refl
or-three false b c = refl

pub parsed-none : (old : Grown) (line : List ℕ) (kept : Words) → AreWords kept [] → Parsed old old line kept line
parsed-none old line kept none = record {
  pairs = refl;
  some = or-nothing _ _ none.some;
  nameless = or-nothing _ _ none.nameless;
  unclosed = or-nothing _ _ none.unclosed;
  followed = or-nothing _ _ none.followed;
}

-- what is left may change where its words don't
moved : (old now : Grown) (line : List ℕ) (kept : Words) (rest other : List ℕ) → Parsed old now line kept rest → words_behind 0 rest ≡ words_behind 0 other → Parsed old now line kept other
moved old now line kept rest other p e = record {
  pairs = p.pairs ∙ ap (λ (ws : List Word). with_pairs (map word_pair ws) now) e;
  some = p.some ∙ ap (λ (ws : List Word). kept.some || not (is_empty ws)) e;
  nameless = p.nameless ∙ ap (λ (ws : List Word). kept.nameless || list_any is_nameless ws) e;
  unclosed = p.unclosed ∙ ap (λ (ws : List Word). kept.unclosed || list_any (λ (word : Word). word.unclosed) ws) e;
  followed = p.followed ∙ ap (λ (ws : List Word). kept.followed || list_any (λ (word : Word). word.followed) ws) e;
}

pub parsed-white : (old now : Grown) (line : List ℕ) (kept : Words) (rest : List ℕ) → Parsed old now line kept rest → 0 < length rest → is_white (get_or rest 0 0) ≡ true → Parsed old now line kept (drop 1 rest)
parsed-white old now line kept [] p some white = absurd (omega arith)
parsed-white old now line kept (b ∷ bytes) p some white = moved old now line kept (b ∷ bytes) bytes p (words-white b bytes white)

no-more : (g : Grown) → with_pairs [] g ≡ g
no-more g = ap (λ (ps : List NdbPair). record { tuples = g.tuples; lines = g.lines; pairs = ps }) (append-nil g.pairs)

-- no words are left
pub parsed-end : (old now : Grown) (line : List ℕ) (kept : Words) (rest : List ℕ) → Parsed old now line kept rest → words_behind 0 rest ≡ [] → AreWords kept (words_behind 0 line) × (now ≡ with_pairs (map word_pair (words_behind 0 line)) old)
parsed-end old now line kept rest p none = (
  record {
    some = sym (p.some ∙ ap (λ (ws : List Word). kept.some || not (is_empty ws)) none ∙ or_none kept.some);
    nameless = sym (p.nameless ∙ ap (λ (ws : List Word). kept.nameless || list_any is_nameless ws) none ∙ or_none kept.nameless);
    unclosed = sym (p.unclosed ∙ ap (λ (ws : List Word). kept.unclosed || list_any (λ (word : Word). word.unclosed) ws) none ∙ or_none kept.unclosed);
    followed = sym (p.followed ∙ ap (λ (ws : List Word). kept.followed || list_any (λ (word : Word). word.followed) ws) none ∙ or_none kept.followed);
  },
  sym (p.pairs ∙ ap (λ (ws : List Word). with_pairs (map word_pair ws) now) none ∙ no-more now),
)

pub left-none : (rest : List ℕ) → length rest ≡ 0 → words_behind 0 rest ≡ []
left-none [] e = refl
left-none (b ∷ bytes) e = absurd (omega arith)

pub left-hash : (rest : List ℕ) → 0 < length rest → get_or rest 0 0 ≡ 35 → words_behind 0 rest ≡ []
left-hash [] some hash = absurd (omega arith)
left-hash (b ∷ bytes) some hash =
    let is : is_hash b ≡ true = grind (arith, nat_tests) in
    let black : is_white b ≡ false = ap is_white hash in
    words-hash b bytes black is

-- a pair and more behind it
with-more : (g : Grown) (pair : NdbPair) (pairs : List NdbPair) → with_pairs (pair ∷ pairs) g ≡ with_pairs pairs (with_pair pair g)
with-more g pair pairs = ap (λ (ps : List NdbPair). record { tuples = g.tuples; lines = g.lines; pairs = ps }) (sym (append_assoc g.pairs (pair ∷ []) pairs))

-- one more word
pub parsed-word : (old now then : Grown) (line : List ℕ) (kept after : Words) (rest : List ℕ) (read : Kept) → Parsed old now line kept rest → 0 < length rest → get_or rest 0 0 ≢ 35 → is_white (get_or rest 0 0) ≡ false → IsWordRead read rest (word_of rest)
    → then ≡ with_pair (record { attr = read.attr.now; value = read.value.now }) now
    → after.some ≡ true
    → after.nameless ≡ (kept.nameless || is_empty read.attr.now)
    → after.unclosed ≡ (kept.unclosed || read.unclosed)
    → after.followed ≡ (kept.followed || read.followed)
    → Parsed old then line after read.rest.now
parsed-word old now then line kept after [] read p some hash white is pairs any nameless unclosed followed = absurd (omega arith)
parsed-word old now then line kept after (b ∷ bytes) read p some hash white is pairs any nameless unclosed followed =
    let word : Word = word_of (b ∷ bytes) in
    let no_hash : is_hash b ≡ false = grind (arith, nat_tests) in
    let behind : List Word = words_behind 0 read.rest.now in
    let next : words_behind 0 (b ∷ bytes) ≡ word ∷ behind =
    words-word b bytes white no_hash
    ∙ ap (λ (ws : List Word). word ∷ ws) (behind-dropped (word.takes - 1) bytes ∙ ap (words_behind 0) (drop-one word.takes b bytes (takes-some b bytes white) ∙ sym is.rest)) in
    let pair : record { attr = read.attr.now; value = read.value.now } ≡ word_pair word =
    ap (λ attr. record { attr = attr; value = read.value.now }) is.attr ∙ ap (λ value. record { attr = word.attr; value = value }) is.value in
    record {
      pairs = p.pairs ∙ ap (λ (ws : List Word). with_pairs (map word_pair ws) now) next
          ∙ with-more now (word_pair word) (map word_pair behind)
          ∙ ap (λ (g : Grown). with_pairs (map word_pair behind) g) (sym (pairs ∙ ap (λ (q : NdbPair). with_pair q now) pair));
      some = p.some ∙ ap (λ (ws : List Word). kept.some || not (is_empty ws)) next ∙ or_true kept.some
          ∙ ap (λ (c : Bool). c || not (is_empty behind)) (sym any);
      nameless = p.nameless ∙ ap (λ (ws : List Word). kept.nameless || list_any is_nameless ws) next
          ∙ or-three kept.nameless (is_empty word.attr) _
          ∙ ap (λ c. c || list_any is_nameless behind) (sym (nameless ∙ ap (λ (a : List ℕ). kept.nameless || is_empty a) is.attr));
      unclosed = p.unclosed ∙ ap (λ (ws : List Word). kept.unclosed || list_any (λ (w : Word). w.unclosed) ws) next
          ∙ or-three kept.unclosed word.unclosed _
          ∙ ap (λ c. c || list_any (λ (w : Word). w.unclosed) behind) (sym (unclosed ∙ ap (λ c. kept.unclosed || c) is.unclosed));
      followed = p.followed ∙ ap (λ (ws : List Word). kept.followed || list_any (λ (w : Word). w.followed) ws) next
          ∙ or-three kept.followed word.followed _
          ∙ ap (λ c. c || list_any (λ (w : Word). w.followed) behind) (sym (followed ∙ ap (λ c. kept.followed || c) is.followed));
    }

-- The word at the front.

below-any : (p : ℕ → Bool) (bytes : List ℕ) → list_any p bytes ≡ true → position_or_len p bytes < length bytes
below-any p [] e = absurd cc
below-any p (b ∷ bytes) e = at (p b) refl (below-any p bytes) e
  where
    at : (v : Bool) → p b ≡ v → (list_any p bytes ≡ true → position_or_len p bytes < length bytes) → (v || list_any p bytes) ≡ true → position_or_len p (b ∷ bytes) < length (b ∷ bytes)
    at true f rest g = rw f (omega arith)
    at false f rest g = rw f (omega (arith, rest g))

-- a quote that isn't closed
pub quoted-open : (read : Kept) (bytes : List ℕ) (end : ℕ) (quoted : List ℕ) → end + 2 ≤ length bytes → quoted ≡ drop (end + 2) bytes → list_any is_quote quoted ≡ false → read.attr.now ≡ take end bytes → read.value.now ≡ quoted → read.rest.now ≡ [] → read.unclosed ≡ true → read.followed ≡ false → IsWordRead read bytes (quoted_word (take end bytes) (drop (end + 2) bytes))
quoted-open read bytes end quoted room is none attr value rest unclosed followed =
    let word : quoted_word (take end bytes) (drop (end + 2) bytes) ≡ record { attr = take end bytes; value = quoted; takes = length (take end bytes) + 2 + length quoted; unclosed = true; followed = false } =
    ap (quoted_word (take end bytes)) (sym is)
    ∙ ap (λ b. cond b (record { attr = take end bytes; value = before_first is_quote quoted; takes = length (take end bytes) + 2 + length (before_first is_quote quoted) + 1 + length (before_first is_white (after_first is_quote quoted)); unclosed = false; followed = not (is_empty (before_first is_white (after_first is_quote quoted))) }) (record { attr = take end bytes; value = quoted; takes = length (take end bytes) + 2 + length quoted; unclosed = true; followed = false })) none in
    rw word (record {
      attr = attr;
      value = value;
      rest = rest ∙ sym (drop_of_length-le bytes (omega (arith, length-take end bytes, ap length is, length-drop (end + 2) bytes, room)));
      unclosed = unclosed;
      followed = followed;
    })

-- a quote that is closed
pub quoted-closed : (read : Kept) (bytes : List ℕ) (end close more : ℕ) (quoted after : List ℕ) → end + 2 ≤ length bytes → quoted ≡ drop (end + 2) bytes → list_any is_quote quoted ≡ true → close ≡ position_or_len is_quote quoted → after ≡ drop (close + 1) quoted → more ≡ position_or_len is_white after → read.attr.now ≡ take end bytes → read.value.now ≡ take close quoted → read.rest.now ≡ drop more after → read.unclosed ≡ false → read.followed ≡ not (is_empty (take more after)) → IsWordRead read bytes (quoted_word (take end bytes) (drop (end + 2) bytes))
quoted-closed read bytes end close more quoted after room is some at_close at_after at_more attr value rest unclosed followed =
    let front : before_first is_quote quoted ≡ take close quoted = ap (λ n. take n quoted) (sym at_close) in
    let behind : after_first is_quote quoted ≡ after = ap (λ n. drop (n + 1) quoted) (sym at_close) ∙ sym at_after in
    let extra : before_first is_white (after_first is_quote quoted) ≡ take more after = ap (before_first is_white) behind ∙ ap (λ n. take n after) (sym at_more) in
    let closed : Word = record { attr = take end bytes; value = take close quoted; takes = length (take end bytes) + 2 + length (take close quoted) + 1 + length (take more after); unclosed = false; followed = not (is_empty (take more after)) } in
    let word : quoted_word (take end bytes) (drop (end + 2) bytes) ≡ closed =
    ap (quoted_word (take end bytes)) (sym is)
    ∙ ap (λ b. cond b (record { attr = take end bytes; value = before_first is_quote quoted; takes = length (take end bytes) + 2 + length (before_first is_quote quoted) + 1 + length (before_first is_white (after_first is_quote quoted)); unclosed = false; followed = not (is_empty (before_first is_white (after_first is_quote quoted))) }) (record { attr = take end bytes; value = quoted; takes = length (take end bytes) + 2 + length quoted; unclosed = true; followed = false })) some
    ∙ ap (λ (f : List ℕ). record { attr = take end bytes; value = f; takes = length (take end bytes) + 2 + length f + 1 + length (before_first is_white (after_first is_quote quoted)); unclosed = false; followed = not (is_empty (before_first is_white (after_first is_quote quoted))) }) front
    ∙ ap (λ (x : List ℕ). record { attr = take end bytes; value = take close quoted; takes = length (take end bytes) + 2 + length (take close quoted) + 1 + length x; unclosed = false; followed = not (is_empty x) }) extra in
    let below : close < length quoted = omega (arith, at_close, below-any is_quote quoted some) in
    let short : more ≤ length after = omega (arith, at_more, prefix_len-le-length (λ b. not (is_white b)) after) in
    let count : length (take end bytes) + 2 + length (take close quoted) + 1 + length (take more after) ≡ end + 2 + (close + 1) + more =
    omega (arith, length-take end bytes, length-take close quoted, length-take more after, below, short, room) in
    rw word (record {
      attr = attr;
      value = value;
      rest = rest ∙ ap (drop more) (at_after ∙ ap (drop (close + 1)) is ∙ drop-drop (close + 1) (end + 2) bytes)
          ∙ drop-drop more (end + 2 + (close + 1)) bytes ∙ ap (λ n. drop n bytes) (sym count);
      unclosed = unclosed;
      followed = followed;
    })

begins-some : (p : ℕ → Bool) (bytes : List ℕ) → begins p bytes ≡ true → 0 < length bytes
begins-some p [] e = absurd cc
begins-some p (b ∷ bytes) e = omega arith

-- there is room for the attribute, the `=` and the quote
pub quoted-room : (bytes run : List ℕ) (len end : ℕ) → run ≡ take len bytes → len ≤ length bytes → begins is_quote (drop (end + 1) run) ≡ true → end + 2 ≤ length bytes
quoted-room bytes run len end is within e =
    omega (arith, begins-some is_quote (drop (end + 1) run) e, length-drop (end + 1) run, ap length is, length-take len bytes, within)

pub word-quoted : (read : Kept) (bytes : List ℕ) (len end : ℕ) → len ≡ position_or_len is_white bytes → end ≡ position_or_len is_equals (take len bytes) → len ≤ length bytes → begins is_quote (drop (end + 1) (take len bytes)) ≡ true → IsWordRead read bytes (quoted_word (take end bytes) (drop (end + 2) bytes)) → IsWordRead read bytes (word_of bytes)
word-quoted read bytes len end at_len at_end within quote r =
    let run : before_first is_white bytes ≡ take len bytes = ap (λ n. take n bytes) (sym at_len) in
    let short : end ≤ length (take len bytes) = omega (arith, at_end, prefix_len-le-length (λ b. not (is_equals b)) (take len bytes)) in
    let attr : before_first is_equals (take len bytes) ≡ take end bytes =
    ap (λ n. take n (take len bytes)) (sym at_end) ∙ take-take end len bytes (omega (arith, short, length-take len bytes, within)) in
    let count : length (take end bytes) + 2 ≡ end + 2 = omega (arith, length-take end bytes, short, length-take len bytes, within) in
    let by : List ℕ → Word = λ r. cond (begins is_quote (after_first is_equals r)) (quoted_word (before_first is_equals r) (drop (length (before_first is_equals r) + 2) bytes)) (plain_word r) in
    let word : word_of bytes ≡ quoted_word (take end bytes) (drop (end + 2) bytes) =
    ap by run
    ∙ ap (λ b. cond b (quoted_word (before_first is_equals (take len bytes)) (drop (length (before_first is_equals (take len bytes)) + 2) bytes)) (plain_word (take len bytes))) (ap (λ n. begins is_quote (drop (n + 1) (take len bytes))) (sym at_end) ∙ quote)
    ∙ ap (λ (a : List ℕ). quoted_word a (drop (length a + 2) bytes)) attr
    ∙ ap (λ n. quoted_word (take end bytes) (drop n bytes)) count in
    rw word r

pub word-plain : (read : Kept) (bytes : List ℕ) (len end : ℕ) → len ≡ position_or_len is_white bytes → end ≡ position_or_len is_equals (take len bytes) → len ≤ length bytes → begins is_quote (drop (end + 1) (take len bytes)) ≡ false → read.attr.now ≡ take end (take len bytes) → read.value.now ≡ drop (end + 1) (take len bytes) → read.rest.now ≡ drop len bytes → read.unclosed ≡ false → read.followed ≡ false → IsWordRead read bytes (word_of bytes)
word-plain read bytes len end at_len at_end within quote attr value rest unclosed followed =
    let run : before_first is_white bytes ≡ take len bytes = ap (λ n. take n bytes) (sym at_len) in
    let by : List ℕ → Word = λ r. cond (begins is_quote (after_first is_equals r)) (quoted_word (before_first is_equals r) (drop (length (before_first is_equals r) + 2) bytes)) (plain_word r) in
    let word : word_of bytes ≡ plain_word (take len bytes) =
    ap by run
    ∙ ap (λ b. cond b (quoted_word (before_first is_equals (take len bytes)) (drop (length (before_first is_equals (take len bytes)) + 2) bytes)) (plain_word (take len bytes))) (ap (λ n. begins is_quote (drop (n + 1) (take len bytes))) (sym at_end) ∙ quote) in
    let count : length (take len bytes) ≡ len = omega (arith, length-take len bytes, within) in
    rw word (record {
      attr = attr ∙ ap (λ n. take n (take len bytes)) at_end;
      value = value ∙ ap (λ n. drop (n + 1) (take len bytes)) at_end;
      rest = rest ∙ ap (λ n. drop n bytes) (sym count);
      unclosed = unclosed;
      followed = followed;
    })

-- behind a word there are fewer bytes
pub shorter : (read : Kept) (rest : List ℕ) → 0 < length rest → is_white (get_or rest 0 0) ≡ false → IsWordRead read rest (word_of rest) → length read.rest.now < length rest
shorter read [] some white is = absurd (omega arith)
shorter read (b ∷ bytes) some white is = omega (arith, ap length is.rest, length-drop (word_of (b ∷ bytes)).takes (b ∷ bytes), takes-some b bytes white)
