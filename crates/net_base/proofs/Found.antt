-- What is lent of runs: how many there are, and which one stands at a place.
use Rattle.std.proofs.Common.{◌≡◌, ℕ, ◌+◌, ◌-◌, ◌≤◌, ◌<◌, List, [], ◌∷◌, length, drop, get_or, refl, sym, ap, ◌∙◌, arith}
use Rattle.std.specs.Prelude.{slice_range}
use Rattle.net_base.specs.declared.ndb.runs.Runs.{Runs}
use Rattle.std.proofs.lemmas.List.{length-drop}
use Rattle.net_base.specs.Parts.{start_at, last_end}
use Rattle.net_base.specs.Store.{pairs_in, lines_in, tuples_in, open_lines, open_pairs, AreSound, AreWhole}
use Rattle.net_base.proofs.Cuts.{parts-length, parts-at, rise-at, slice-at, slice-length, rise-last}
use Rattle.net_base.proofs.Marks.{marked-length}

pub tuples_len : (r : Runs) → length r.tuples.items ≡ length (tuples_in r)
tuples_len r = sym (parts-length 0 r.tuples.items (lines_in r))

pub lines_len : (r : Runs) → length r.lines.items ≡ length (lines_in r)
lines_len r = sym (parts-length 0 r.lines.items (pairs_in r))

pub pairs_len : (r : Runs) → length r.pairs.items ≡ length (pairs_in r)
pairs_len r = sym (marked-length 0 r.pairs.items r.bytes.items)

pub tuple_len : (r : Runs) (first end : ℕ) → first ≤ end → end ≤ length r.lines.items → end - first ≡ length (slice_range (lines_in r) first end)
tuple_len r first end le within = sym (slice-length (lines_in r) first end le (omega (arith, within, lines_len r)))

pub line_len : (r : Runs) (first end : ℕ) → first ≤ end → end ≤ length r.pairs.items → end - first ≡ length (slice_range (pairs_in r) first end)
line_len r first end le within = sym (slice-length (pairs_in r) first end le (omega (arith, within, pairs_len r)))

pub tuple_found : (r : Runs) (place : ℕ) → place < length r.tuples.items → slice_range (lines_in r) (start_at 0 r.tuples.items place) (get_or r.tuples.items place 0) ≡ get_or (tuples_in r) place []
tuple_found r place h = sym (parts-at 0 r.tuples.items (lines_in r) place h)

pub tuple_within : (r : Runs) (place : ℕ) → AreSound r → place < length r.tuples.items → (start_at 0 r.tuples.items place ≤ get_or r.tuples.items place 0) × (get_or r.tuples.items place 0 ≤ length r.lines.items)
tuple_within r place sound h = rise-at 0 r.tuples.items (length r.lines.items) place sound.tuples h

pub line_found : (r : Runs) (first end number : ℕ) → end ≤ length r.lines.items → number < end - first → slice_range (pairs_in r) (start_at 0 r.lines.items (first + number)) (get_or r.lines.items (first + number) 0) ≡ get_or (slice_range (lines_in r) first end) number []
line_found r first end number within h =
    sym (slice-at (lines_in r) first end number [] h ∙ parts-at 0 r.lines.items (pairs_in r) (first + number) (omega (arith, within, h)))

pub line_within : (r : Runs) (first end number : ℕ) → AreSound r → end ≤ length r.lines.items → number < end - first → (start_at 0 r.lines.items (first + number) ≤ get_or r.lines.items (first + number) 0) × (get_or r.lines.items (first + number) 0 ≤ length r.pairs.items)
line_within r first end number sound within h = rise-at 0 r.lines.items (length r.pairs.items) (first + number) sound.lines (omega (arith, within, h))

pub last-is : (start : ℕ) (ends : List ℕ) → start_at start ends (length ends) ≡ last_end start ends
last-is start [] = refl
last-is start (end ∷ ends) = last-is end ends

pub first_within : (r : Runs) → AreSound r → start_at 0 r.tuples.items (length r.tuples.items) ≤ length r.lines.items
first_within r sound = omega (arith, last-is 0 r.tuples.items, rise-last 0 r.tuples.items (length r.lines.items) sound.tuples)

pub open_count : (r : Runs) → length r.lines.items - start_at 0 r.tuples.items (length r.tuples.items) ≡ length (open_lines r)
open_count r = omega (arith, last-is 0 r.tuples.items, lines_len r, length-drop (last_end 0 r.tuples.items) (lines_in r))

none-left : {X : Type 0} (xs : List X) (n : ℕ) → drop n xs ≡ [] → length xs ≤ n
none-left xs n e = omega (arith, length-drop n xs, ap length e)

-- where no line and no pair is open, nothing stands behind the last tuple
pub is_whole : (r : Runs) → AreSound r → open_lines r ≡ [] → open_pairs r ≡ [] → AreWhole r
is_whole r sound lines pairs = record {
  lines = omega (arith, none-left (pairs_in r) (last_end 0 r.lines.items) pairs, pairs_len r, rise-last 0 r.lines.items (length r.pairs.items) sound.lines);
  tuples = omega (arith, none-left (lines_in r) (last_end 0 r.tuples.items) lines, lines_len r, rise-last 0 r.tuples.items (length r.lines.items) sound.tuples);
}
