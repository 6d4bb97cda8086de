-- What is left of lists in a row where the first ones are gone, with what they had.
use Rattle.std.proofs.Common.{◌≡◌, ℕ, ◌+◌, ◌-◌, ◌≤◌, ◌<◌, List, [], ◌∷◌, ◌++◌, length, map, take, drop, get_or, refl, sym, ap, subst, ◌∙◌, arith, append_assoc, append-nil, length-append}
use Rattle.std.specs.Prelude.{zero, suc, set, slice_range}
use Rattle.std.proofs.lemmas.List.{length-drop, length-map, length-take-le, drop-drop, drop-take, take-append-drop, drop_more, get_or_at, set_at, map_more, take_all, drop_all}
use Rattle.net_base.specs.Ndb.{NdbPair}
use Rattle.net_base.specs.declared.ndb.runs.Mark.{Mark}
use Rattle.net_base.specs.declared.ndb.runs.Runs.{Runs}
use Rattle.net_base.specs.Parts.{start_at, last_end, ends_lowered, parts, Rise}
use Rattle.net_base.specs.Store.{pair_with, pair_between, mark_lowered, marks_lowered, marked, value_at, MarksRise, pairs_in, lines_in, tuples_in, AreSound, AreWhole}
use Rattle.net_base.proofs.Cuts.{rise-start}
use Rattle.net_base.proofs.Marks.{marks-start}

-- Lists.

-- what stands from a place to another
pub range-left : {X : Type 0} (xs : List X) (first end : ℕ) → first ≤ end → drop first (take end xs) ≡ slice_range xs first end
range-left xs first end rise =
    let whole : end ≡ first + (end - first) = omega (arith, rise) in
    ap (λ (n : ℕ). drop first (take n xs)) whole ∙ drop-take first (end - first) xs

-- a list whose first elements are changed, so many, and the others not yet
pub mapped-length : {X : Type 0} (f : X → X) (xs ys : List X) (i : ℕ) → ys ≡ map f (take i xs) ++ drop i xs → length ys ≡ length xs
mapped-length {X = X} f xs ys i e =
    ap (λ (zs : List X). length zs) e
    ∙ omega (arith, length-append (map f (take i xs)) (drop i xs), length-map (take i xs) f, length-append (take i xs) (drop i xs), ap (λ (zs : List X). length zs) (take-append-drop i xs))

pub mapped-next : {X : Type 0} (f : X → X) (xs ys new : List X) (i : ℕ) (d : X) → i < length xs → ys ≡ map f (take i xs) ++ drop i xs → new ≡ set ys i (f (get_or ys i d)) → new ≡ map f (take (i + 1) xs) ++ drop (i + 1) xs
mapped-next {X = X} f xs ys new i d h e n =
    let front : List X = map f (take i xs) in
    let x : X = get_or xs i d in
    let rest : List X = drop (i + 1) xs in
    let len : length front ≡ i = length-map (take i xs) f ∙ length-take-le i xs (omega (arith, h)) in
    let split : ys ≡ front ++ x ∷ rest = e ∙ ap (λ (zs : List X). front ++ zs) (drop_more xs i d h) in
    let here : get_or ys i d ≡ x = ap (λ (zs : List X). get_or zs i d) split ∙ get_or_at front x rest d i len in
    n ∙ ap (λ (zs : List X). set zs i (f (get_or ys i d))) split
    ∙ ap (λ (z : X). set (front ++ x ∷ rest) i (f z)) here
    ∙ set_at front x rest (f x) i len
    ∙ sym (append_assoc front (f x ∷ []) rest)
    ∙ ap (λ (zs : List X). zs ++ rest) (sym (map_more f xs i d h))

pub mapped-all : {X : Type 0} (f : X → X) (xs ys : List X) (i : ℕ) → length xs ≤ i → ys ≡ map f (take i xs) ++ drop i xs → ys ≡ map f xs
mapped-all {X = X} f xs ys i all e =
    e ∙ ap (λ (zs : List X). map f zs ++ drop i xs) (take_all i xs all) ∙ ap (λ (zs : List X). map f xs ++ zs) (drop_all i xs all) ∙ append-nil (map f xs)

rise-dropped : (n start : ℕ) (ends : List ℕ) (count : ℕ) → Rise start ends count → Rise (start_at start ends n) (drop n ends) count
rise-dropped zero start ends count rise = rise
rise-dropped (suc n) start [] count rise = rise
rise-dropped (suc n) start (end ∷ ends) count rise = rise-dropped n end ends count rise.1

pub start-within : (n : ℕ) (ends : List ℕ) (count : ℕ) → Rise 0 ends count → start_at 0 ends n ≤ count
start-within n ends count rise = rise-start (start_at 0 ends n) (drop n ends) count (rise-dropped n 0 ends count rise)

parts-dropped : {X : Type 0} (n start : ℕ) (ends : List ℕ) (xs : List X) → parts (start_at start ends n) (drop n ends) xs ≡ drop n (parts start ends xs)
parts-dropped zero start ends xs = refl
parts-dropped (suc n) start [] xs = refl
parts-dropped (suc n) start (end ∷ ends) xs = parts-dropped n end ends xs

last-dropped : (n start : ℕ) (ends : List ℕ) → last_end (start_at start ends n) (drop n ends) ≡ last_end start ends
last-dropped zero start ends = refl
last-dropped (suc n) start [] = refl
last-dropped (suc n) start (end ∷ ends) = last-dropped n end ends

slice-lowered : {X : Type 0} (xs : List X) (k a b : ℕ) → k ≤ a → a ≤ b → slice_range (drop k xs) (a - k) (b - k) ≡ slice_range xs a b
slice-lowered xs k a b ka ab =
    let same : (b - k) - (a - k) ≡ b - a = omega (arith, ka, ab) in
    let at : k + (a - k) ≡ a = omega (arith, ka) in
    ap (λ (n : ℕ). take n (drop (a - k) (drop k xs))) same
    ∙ ap (take (b - a)) (drop-drop (a - k) k xs ∙ ap (λ (n : ℕ). drop n xs) at)

parts-lowered : {X : Type 0} (k start : ℕ) (ends : List ℕ) (xs : List X) (count : ℕ) → k ≤ start → Rise start ends count → parts (start - k) (ends_lowered k ends) (drop k xs) ≡ parts start ends xs
parts-lowered k start [] xs count le rise = refl
parts-lowered k start (end ∷ ends) xs count le rise =
    ap (λ l. l ∷ parts (end - k) (ends_lowered k ends) (drop k xs)) (slice-lowered xs k start end le rise.0)
    ∙ ap (λ ls. slice_range xs start end ∷ ls) (parts-lowered k end ends xs count (omega (arith, le, rise.0)) rise.1)

rise-lowered : (k start : ℕ) (ends : List ℕ) (count : ℕ) → k ≤ start → Rise start ends count → Rise (start - k) (ends_lowered k ends) (count - k)
rise-lowered k start [] count le rise = omega (arith, rise)
rise-lowered k start (end ∷ ends) count le rise = (omega (arith, rise.0, le), rise-lowered k end ends count (omega (arith, le, rise.0)) rise.1)

last-lowered : (k start : ℕ) (ends : List ℕ) → last_end (start - k) (ends_lowered k ends) ≡ last_end start ends - k
last-lowered k start [] = refl
last-lowered k start (end ∷ ends) = last-lowered k end ends

-- the ends behind the first ones, so many, as they are kept
abbrev left : ℕ → List ℕ → List ℕ
left n ends = ends_lowered (start_at 0 ends n) (drop n ends)

left-parts : {X : Type 0} (n : ℕ) (ends : List ℕ) (xs : List X) (count : ℕ) → Rise 0 ends count → parts 0 (left n ends) (drop (start_at 0 ends n) xs) ≡ drop n (parts 0 ends xs)
left-parts n ends xs count rise =
    let k : ℕ = start_at 0 ends n in
    let none : 0 ≡ k - k = omega arith in
    let self : k ≤ k = omega arith in
    ap (λ (s : ℕ). parts s (left n ends) (drop k xs)) none
    ∙ parts-lowered k k (drop n ends) xs count self (rise-dropped n 0 ends count rise)
    ∙ parts-dropped n 0 ends xs

left-rise : (n : ℕ) (ends : List ℕ) (count : ℕ) → Rise 0 ends count → Rise 0 (left n ends) (count - start_at 0 ends n)
left-rise n ends count rise =
    let k : ℕ = start_at 0 ends n in
    let none : k - k ≡ 0 = omega arith in
    let self : k ≤ k = omega arith in
    subst (λ (s : ℕ). Rise s (left n ends) (count - k)) none (rise-lowered k k (drop n ends) count self (rise-dropped n 0 ends count rise))

left-last : (n : ℕ) (ends : List ℕ) → last_end 0 (left n ends) ≡ last_end 0 ends - start_at 0 ends n
left-last n ends =
    let k : ℕ = start_at 0 ends n in
    let none : 0 ≡ k - k = omega arith in
    ap (λ (s : ℕ). last_end s (left n ends)) none ∙ last-lowered k k (drop n ends) ∙ ap (λ (e : ℕ). e - k) (last-dropped n 0 ends)

left-length : (n : ℕ) (ends : List ℕ) → length (left n ends) ≡ length ends - n
left-length n ends = length-map (drop n ends) (λ end. end - start_at 0 ends n) ∙ length-drop n ends

-- Pairs.

marks-dropped : (n start : ℕ) (marks : List Mark) (count : ℕ) → MarksRise start marks count → MarksRise (value_at start marks n) (drop n marks) count
marks-dropped zero start marks count rise = rise
marks-dropped (suc n) start [] count rise = rise
marks-dropped (suc n) start (mark ∷ marks) count rise = marks-dropped n mark.value marks count rise.2

pub value-within : (n : ℕ) (marks : List Mark) (count : ℕ) → MarksRise 0 marks count → value_at 0 marks n ≤ count
value-within n marks count rise = marks-start (value_at 0 marks n) (drop n marks) count (marks-dropped n 0 marks count rise)

marked-dropped : (n start : ℕ) (marks : List Mark) (bytes : List ℕ) → marked (value_at start marks n) (drop n marks) bytes ≡ drop n (marked start marks bytes)
marked-dropped zero start marks bytes = refl
marked-dropped (suc n) start [] bytes = refl
marked-dropped (suc n) start (mark ∷ marks) bytes = marked-dropped n mark.value marks bytes

pair-lowered : (k start : ℕ) (mark : Mark) (bytes : List ℕ) → k ≤ start → start ≤ mark.attr → mark.attr ≤ mark.value → pair_between (start - k) (mark_lowered k mark) (drop k bytes) ≡ pair_between start mark bytes
pair-lowered k start mark bytes le first second =
    ap (λ (a : List ℕ). pair_with a (slice_range (drop k bytes) (mark.attr - k) (mark.value - k))) (slice-lowered bytes k start mark.attr le first)
    ∙ ap (pair_with (slice_range bytes start mark.attr)) (slice-lowered bytes k mark.attr mark.value (omega (arith, le, first)) second)

marked-lowered : (k start : ℕ) (marks : List Mark) (bytes : List ℕ) (count : ℕ) → k ≤ start → MarksRise start marks count → marked (start - k) (marks_lowered k marks) (drop k bytes) ≡ marked start marks bytes
marked-lowered k start [] bytes count le rise = refl
marked-lowered k start (mark ∷ marks) bytes count le rise =
    ap (λ (p : NdbPair). p ∷ marked (mark.value - k) (marks_lowered k marks) (drop k bytes)) (pair-lowered k start mark bytes le rise.0 rise.1)
    ∙ ap (λ (ps : List NdbPair). pair_between start mark bytes ∷ ps) (marked-lowered k mark.value marks bytes count (omega (arith, le, rise.0, rise.1)) rise.2)

marks-lowered : (k start : ℕ) (marks : List Mark) (count : ℕ) → k ≤ start → MarksRise start marks count → MarksRise (start - k) (marks_lowered k marks) (count - k)
marks-lowered k start [] count le rise = ap (λ (n : ℕ). n - k) rise
marks-lowered k start (mark ∷ marks) count le rise =
    (omega (arith, rise.0, le), omega (arith, rise.1), marks-lowered k mark.value marks count (omega (arith, le, rise.0, rise.1)) rise.2)

-- the marks behind the first ones, so many, as they are kept
abbrev left_marks : ℕ → List Mark → List Mark
left_marks n marks = marks_lowered (value_at 0 marks n) (drop n marks)

left-marked : (n : ℕ) (marks : List Mark) (bytes : List ℕ) (count : ℕ) → MarksRise 0 marks count → marked 0 (left_marks n marks) (drop (value_at 0 marks n) bytes) ≡ drop n (marked 0 marks bytes)
left-marked n marks bytes count rise =
    let k : ℕ = value_at 0 marks n in
    let none : 0 ≡ k - k = omega arith in
    let self : k ≤ k = omega arith in
    ap (λ (s : ℕ). marked s (left_marks n marks) (drop k bytes)) none
    ∙ marked-lowered k k (drop n marks) bytes count self (marks-dropped n 0 marks count rise)
    ∙ marked-dropped n 0 marks bytes

left-marks-rise : (n : ℕ) (marks : List Mark) (count : ℕ) → MarksRise 0 marks count → MarksRise 0 (left_marks n marks) (count - value_at 0 marks n)
left-marks-rise n marks count rise =
    let k : ℕ = value_at 0 marks n in
    let none : k - k ≡ 0 = omega arith in
    let self : k ≤ k = omega arith in
    subst (λ (s : ℕ). MarksRise s (left_marks n marks) (count - k)) none (marks-lowered k k (drop n marks) count self (marks-dropped n 0 marks count rise))

left-marks-length : (n : ℕ) (marks : List Mark) → length (left_marks n marks) ≡ length marks - n
left-marks-length n marks = length-map (drop n marks) (mark_lowered (value_at 0 marks n)) ∙ length-drop n marks

-- Runs.

-- without the first tuples, so many, and what they had
pub record Skips (count lines pairs bytes : ℕ) (r s : Runs) : Type 0 where
  pub lines_is : lines ≡ start_at 0 r.tuples.items count
  pub pairs_is : pairs ≡ start_at 0 r.lines.items lines
  pub bytes_is : bytes ≡ value_at 0 r.pairs.items pairs
  pub tuples_left : s.tuples.items ≡ ends_lowered lines (drop count r.tuples.items)
  pub lines_left : s.lines.items ≡ ends_lowered pairs (drop lines r.lines.items)
  pub pairs_left : s.pairs.items ≡ marks_lowered bytes (drop pairs r.pairs.items)
  pub bytes_left : s.bytes.items ≡ drop bytes r.bytes.items

module _ (count lines pairs bytes : ℕ) (r s : Runs) (sound : AreSound r) (k : Skips count lines pairs bytes r s) where
  tuples-are : s.tuples.items ≡ left count r.tuples.items
  tuples-are = k.tuples_left ∙ ap (λ (n : ℕ). ends_lowered n (drop count r.tuples.items)) k.lines_is

  lines-are : s.lines.items ≡ left lines r.lines.items
  lines-are = k.lines_left ∙ ap (λ (n : ℕ). ends_lowered n (drop lines r.lines.items)) k.pairs_is

  marks-are : s.pairs.items ≡ left_marks pairs r.pairs.items
  marks-are = k.pairs_left ∙ ap (λ (n : ℕ). marks_lowered n (drop pairs r.pairs.items)) k.bytes_is

  lines-count : length s.lines.items ≡ length r.lines.items - start_at 0 r.tuples.items count
  lines-count = ap (λ (es : List ℕ). length es) lines-are ∙ left-length lines r.lines.items ∙ ap (λ (n : ℕ). length r.lines.items - n) k.lines_is

  pairs-count : length s.pairs.items ≡ length r.pairs.items - start_at 0 r.lines.items lines
  pairs-count = ap (λ (ms : List Mark). length ms) marks-are ∙ left-marks-length pairs r.pairs.items ∙ ap (λ (n : ℕ). length r.pairs.items - n) k.pairs_is

  bytes-count : length s.bytes.items ≡ length r.bytes.items - value_at 0 r.pairs.items pairs
  bytes-count = ap (λ (bs : List ℕ). length bs) k.bytes_left ∙ length-drop bytes r.bytes.items ∙ ap (λ (n : ℕ). length r.bytes.items - n) k.bytes_is

  pub skipped-sound : AreSound s
  skipped-sound = record {
    bytes = subst (MarksRise 0 s.pairs.items) (sym bytes-count) (subst (λ (ms : List Mark). MarksRise 0 ms (length r.bytes.items - value_at 0 r.pairs.items pairs)) (sym marks-are) (left-marks-rise pairs r.pairs.items (length r.bytes.items) sound.bytes));
    lines = subst (Rise 0 s.lines.items) (sym pairs-count) (subst (λ (es : List ℕ). Rise 0 es (length r.pairs.items - start_at 0 r.lines.items lines)) (sym lines-are) (left-rise lines r.lines.items (length r.pairs.items) sound.lines));
    tuples = subst (Rise 0 s.tuples.items) (sym lines-count) (subst (λ (es : List ℕ). Rise 0 es (length r.lines.items - start_at 0 r.tuples.items count)) (sym tuples-are) (left-rise count r.tuples.items (length r.lines.items) sound.tuples));
  }

  pub skipped-whole : AreWhole r → AreWhole s
  skipped-whole whole = record {
    lines = ap (last_end 0) lines-are ∙ left-last lines r.lines.items ∙ ap (λ (n : ℕ). n - start_at 0 r.lines.items lines) whole.lines ∙ sym pairs-count;
    tuples = ap (last_end 0) tuples-are ∙ left-last count r.tuples.items ∙ ap (λ (n : ℕ). n - start_at 0 r.tuples.items count) whole.tuples ∙ sym lines-count;
  }

  pairs-past : pairs_in s ≡ drop pairs (pairs_in r)
  pairs-past =
      ap (λ (ms : List Mark). marked 0 ms s.bytes.items) marks-are
      ∙ ap (marked 0 (left_marks pairs r.pairs.items)) (k.bytes_left ∙ ap (λ (n : ℕ). drop n r.bytes.items) k.bytes_is)
      ∙ left-marked pairs r.pairs.items r.bytes.items (length r.bytes.items) sound.bytes

  lines-past : lines_in s ≡ drop lines (lines_in r)
  lines-past =
      ap (λ (es : List ℕ). parts 0 es (pairs_in s)) lines-are
      ∙ ap (parts 0 (left lines r.lines.items)) (pairs-past ∙ ap (λ (n : ℕ). drop n (pairs_in r)) k.pairs_is)
      ∙ left-parts lines r.lines.items (pairs_in r) (length r.pairs.items) sound.lines

  pub skipped-tuples : tuples_in s ≡ drop count (tuples_in r)
  skipped-tuples =
      ap (λ (es : List ℕ). parts 0 es (lines_in s)) tuples-are
      ∙ ap (parts 0 (left count r.tuples.items)) (lines-past ∙ ap (λ (n : ℕ). drop n (lines_in r)) k.lines_is)
      ∙ left-parts count r.tuples.items (lines_in r) (length r.lines.items) sound.tuples
