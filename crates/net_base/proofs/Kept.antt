-- The first of the lists in a row, with what they have.
use Rattle.std.proofs.Common.{◌≡◌, ℕ, ◌+◌, ◌-◌, ◌≤◌, List, [], ◌∷◌, ◌++◌, length, take, drop, refl, sym, ap, subst, ◌∙◌, arith}
use Rattle.std.specs.Prelude.{zero, suc, slice_range}
use Rattle.std.proofs.lemmas.List.{length-take-le, take-append-drop}
use Rattle.net_base.specs.Ndb.{NdbPair}
use Rattle.net_base.specs.declared.ndb.runs.Mark.{Mark}
use Rattle.net_base.specs.declared.ndb.runs.Runs.{Runs}
use Rattle.net_base.specs.Parts.{last_end, parts, Rise}
use Rattle.net_base.specs.Store.{pair_between, marked, last_value, value_at, MarksRise, pairs_in, lines_in, tuples_in, AreSound, AreWhole}
use Rattle.net_base.proofs.Cuts.{parts-more, rise-last}
use Rattle.net_base.proofs.Marks.{pair-more, marks-start}
use Rattle.net_base.proofs.Found.{lines_len, pairs_len}

-- Lists.

parts-taken : {X : Type 0} (n start : ℕ) (ends : List ℕ) (xs : List X) → parts start (take n ends) xs ≡ take n (parts start ends xs)
parts-taken zero start ends xs = refl
parts-taken (suc n) start [] xs = refl
parts-taken (suc n) start (end ∷ ends) xs = ap (λ ls. slice_range xs start end ∷ ls) (parts-taken n end ends xs)

rise-taken : (n start : ℕ) (ends : List ℕ) (count : ℕ) → Rise start ends count → Rise start (take n ends) (last_end start (take n ends))
rise-taken zero start ends count rise = omega arith
rise-taken (suc n) start [] count rise = omega arith
rise-taken (suc n) start (end ∷ ends) count rise = (rise.0, rise-taken n end ends count rise.1)

within-taken : (n start : ℕ) (ends : List ℕ) (count : ℕ) → Rise start ends count → last_end start (take n ends) ≤ count
within-taken n start ends count rise = rise-last start (take n ends) count (still n start ends rise)
  where
    first : (s : ℕ) (es : List ℕ) → Rise s es count → s ≤ count
    first s [] r = r
    first s (e ∷ es) r = omega (arith, r.0, first e es r.1)

    still : (m s : ℕ) (es : List ℕ) → Rise s es count → Rise s (take m es) count
    still zero s es r = first s es r
    still (suc m) s [] r = r
    still (suc m) s (e ∷ es) r = (r.0, still m e es r.1)

-- what stands behind the last list doesn't count
parts-within : {X : Type 0} (ends : List ℕ) (xs : List X) (m : ℕ) → Rise 0 ends m → m ≤ length xs → parts 0 ends (take m xs) ≡ parts 0 ends xs
parts-within ends xs m rise within =
    sym (parts-more 0 ends (take m xs) (drop m xs) (subst (Rise 0 ends) (sym (length-take-le m xs within)) rise))
    ∙ ap (parts 0 ends) (take-append-drop m xs)

-- Pairs.

marked-taken : (n start : ℕ) (marks : List Mark) (bytes : List ℕ) → marked start (take n marks) bytes ≡ take n (marked start marks bytes)
marked-taken zero start marks bytes = refl
marked-taken (suc n) start [] bytes = refl
marked-taken (suc n) start (mark ∷ marks) bytes = ap (λ (ps : List NdbPair). pair_between start mark bytes ∷ ps) (marked-taken n mark.value marks bytes)

marks-taken : (n start : ℕ) (marks : List Mark) (count : ℕ) → MarksRise start marks count → MarksRise start (take n marks) (last_value start (take n marks))
marks-taken zero start marks count rise = refl
marks-taken (suc n) start [] count rise = refl
marks-taken (suc n) start (mark ∷ marks) count rise = (rise.0, rise.1, marks-taken n mark.value marks count rise.2)

marks-within : (n start : ℕ) (marks : List Mark) (count : ℕ) → MarksRise start marks count → last_value start (take n marks) ≤ count
marks-within zero start marks count rise = marks-start start marks count rise
marks-within (suc n) start [] count rise = omega (arith, rise)
marks-within (suc n) start (mark ∷ marks) count rise = marks-within n mark.value marks count rise.2

marked-more : (start : ℕ) (marks : List Mark) (bytes more : List ℕ) → MarksRise start marks (length bytes) → marked start marks (bytes ++ more) ≡ marked start marks bytes
marked-more start [] bytes more rise = refl
marked-more start (mark ∷ marks) bytes more rise =
    ap (λ (p : NdbPair). p ∷ marked mark.value marks (bytes ++ more)) (pair-more start mark bytes more rise.0 rise.1 (marks-start mark.value marks (length bytes) rise.2))
    ∙ ap (λ (ps : List NdbPair). pair_between start mark bytes ∷ ps) (marked-more mark.value marks bytes more rise.2)

marked-within : (marks : List Mark) (bytes : List ℕ) (m : ℕ) → MarksRise 0 marks m → m ≤ length bytes → marked 0 marks (take m bytes) ≡ marked 0 marks bytes
marked-within marks bytes m rise within =
    sym (marked-more 0 marks (take m bytes) (drop m bytes) (subst (MarksRise 0 marks) (sym (length-take-le m bytes within)) rise))
    ∙ ap (marked 0 marks) (take-append-drop m bytes)

-- where the last pair ends
pub value-last : (start : ℕ) (marks : List Mark) → value_at start marks (length marks) ≡ last_value start marks
value-last start [] = refl
value-last start (mark ∷ marks) = value-last mark.value marks

-- the first tuples, with what they have
pub record Keeps (count : ℕ) (r s : Runs) : Type 0 where
  pub tuples : s.tuples.items ≡ take count r.tuples.items
  pub lines : s.lines.items ≡ take (last_end 0 s.tuples.items) r.lines.items
  pub pairs : s.pairs.items ≡ take (last_end 0 s.lines.items) r.pairs.items
  pub bytes : s.bytes.items ≡ take (last_value 0 s.pairs.items) r.bytes.items

-- how many lines, pairs and bytes are kept
pub record Fits (r s : Runs) : Type 0 where
  pub tuples : Rise 0 s.tuples.items (length s.lines.items)
  pub lines : Rise 0 s.lines.items (length s.pairs.items)
  pub marks : MarksRise 0 s.pairs.items (length s.bytes.items)
  pub lines_all : length s.lines.items ≡ last_end 0 s.tuples.items
  pub pairs_all : length s.pairs.items ≡ last_end 0 s.lines.items
  pub bytes_all : length s.bytes.items ≡ last_value 0 s.pairs.items
  pub lines_within : last_end 0 s.tuples.items ≤ length r.lines.items
  pub pairs_within : last_end 0 s.lines.items ≤ length r.pairs.items
  pub bytes_within : last_value 0 s.pairs.items ≤ length r.bytes.items

fits : (count : ℕ) (r s : Runs) → AreSound r → Keeps count r s → Fits r s
fits count r s sound k =
    let lines_within : last_end 0 s.tuples.items ≤ length r.lines.items =
    subst (λ (es : List ℕ). last_end 0 es ≤ length r.lines.items) (sym k.tuples) (within-taken count 0 r.tuples.items (length r.lines.items) sound.tuples) in
    let pairs_within : last_end 0 s.lines.items ≤ length r.pairs.items =
    subst (λ (es : List ℕ). last_end 0 es ≤ length r.pairs.items) (sym k.lines) (within-taken (last_end 0 s.tuples.items) 0 r.lines.items (length r.pairs.items) sound.lines) in
    let bytes_within : last_value 0 s.pairs.items ≤ length r.bytes.items =
    subst (λ (ms : List Mark). last_value 0 ms ≤ length r.bytes.items) (sym k.pairs) (marks-within (last_end 0 s.lines.items) 0 r.pairs.items (length r.bytes.items) sound.bytes) in
    let lines_all : length s.lines.items ≡ last_end 0 s.tuples.items = ap (λ (es : List ℕ). length es) k.lines ∙ length-take-le (last_end 0 s.tuples.items) r.lines.items lines_within in
    let pairs_all : length s.pairs.items ≡ last_end 0 s.lines.items = ap (λ (ms : List Mark). length ms) k.pairs ∙ length-take-le (last_end 0 s.lines.items) r.pairs.items pairs_within in
    let bytes_all : length s.bytes.items ≡ last_value 0 s.pairs.items = ap (λ (bs : List ℕ). length bs) k.bytes ∙ length-take-le (last_value 0 s.pairs.items) r.bytes.items bytes_within in
    record {
      tuples = subst (Rise 0 s.tuples.items) (sym lines_all) (subst (λ (es : List ℕ). Rise 0 es (last_end 0 es)) (sym k.tuples) (rise-taken count 0 r.tuples.items (length r.lines.items) sound.tuples));
      lines = subst (Rise 0 s.lines.items) (sym pairs_all) (subst (λ (es : List ℕ). Rise 0 es (last_end 0 es)) (sym k.lines) (rise-taken (last_end 0 s.tuples.items) 0 r.lines.items (length r.pairs.items) sound.lines));
      marks = subst (MarksRise 0 s.pairs.items) (sym bytes_all) (subst (λ (ms : List Mark). MarksRise 0 ms (last_value 0 ms)) (sym k.pairs) (marks-taken (last_end 0 s.lines.items) 0 r.pairs.items (length r.bytes.items) sound.bytes));
      lines_all = lines_all;
      pairs_all = pairs_all;
      bytes_all = bytes_all;
      lines_within = lines_within;
      pairs_within = pairs_within;
      bytes_within = bytes_within;
    }

pub kept-sound : (count : ℕ) (r s : Runs) → AreSound r → Keeps count r s → AreSound s
kept-sound count r s sound k =
    let f = fits count r s sound k in
    record { bytes = f.marks; lines = f.lines; tuples = f.tuples }

pub kept-whole : (count : ℕ) (r s : Runs) → AreSound r → Keeps count r s → AreWhole s
kept-whole count r s sound k =
    let f = fits count r s sound k in
    record { lines = sym f.pairs_all; tuples = sym f.lines_all }

pairs-kept : (count : ℕ) (r s : Runs) → AreSound r → Keeps count r s → pairs_in s ≡ take (last_end 0 s.lines.items) (pairs_in r)
pairs-kept count r s sound k =
    let f = fits count r s sound k in
    ap (marked 0 s.pairs.items) k.bytes
    ∙ marked-within s.pairs.items r.bytes.items (last_value 0 s.pairs.items) (subst (MarksRise 0 s.pairs.items) f.bytes_all f.marks) f.bytes_within
    ∙ ap (λ (ms : List Mark). marked 0 ms r.bytes.items) k.pairs
    ∙ marked-taken (last_end 0 s.lines.items) 0 r.pairs.items r.bytes.items

lines-kept : (count : ℕ) (r s : Runs) → AreSound r → Keeps count r s → lines_in s ≡ take (last_end 0 s.tuples.items) (lines_in r)
lines-kept count r s sound k =
    let f = fits count r s sound k in
    ap (parts 0 s.lines.items) (pairs-kept count r s sound k)
    ∙ parts-within s.lines.items (pairs_in r) (last_end 0 s.lines.items) (subst (Rise 0 s.lines.items) f.pairs_all f.lines) (omega (arith, f.pairs_within, pairs_len r))
    ∙ ap (λ (es : List ℕ). parts 0 es (pairs_in r)) k.lines
    ∙ parts-taken (last_end 0 s.tuples.items) 0 r.lines.items (pairs_in r)

pub tuples-kept : (count : ℕ) (r s : Runs) → AreSound r → Keeps count r s → tuples_in s ≡ take count (tuples_in r)
tuples-kept count r s sound k =
    let f = fits count r s sound k in
    ap (parts 0 s.tuples.items) (lines-kept count r s sound k)
    ∙ parts-within s.tuples.items (lines_in r) (last_end 0 s.tuples.items) (subst (Rise 0 s.tuples.items) f.lines_all f.tuples) (omega (arith, f.lines_within, lines_len r))
    ∙ ap (λ (es : List ℕ). parts 0 es (lines_in r)) k.tuples
    ∙ parts-taken count 0 r.tuples.items (lines_in r)
