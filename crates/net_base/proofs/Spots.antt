-- Where the pair with a number stands, by where lines and tuples end.
use Rattle.std.proofs.Common.{◌≡◌, ℕ, ◌+◌, ◌-◌, ◌≤◌, ◌<◌, List, [], ◌∷◌, length, map, get_or, refl, sym, ap, subst, ◌∙◌, arith, length-append}
use Rattle.std.specs.Prelude.{zero, suc, flat_map, slice_range}
use Rattle.std.proofs.lemmas.List.{get_or_append_left, get_or-append_right, get_or-map, length-map}
use Rattle.net_base.specs.Ndb.{NdbPair}
use Rattle.net_base.specs.declared.ndb.spot.Spot.{Spot}
use Rattle.net_base.specs.declared.ndb.runs.Runs.{Runs}
use Rattle.net_base.specs.Parts.{last_end, start_at, parts, Rise}
use Rattle.net_base.specs.Spots.{spot_at, line_spots, all_lines, spread, pair_spots, Owns}
use Rattle.net_base.specs.Store.{pairs_in, lines_in, tuples_in, AreSound, AreWhole}
use Rattle.net_base.proofs.Cuts.{rise-start, slice-length}
use Rattle.net_base.proofs.Flat.{flat-all}
use Rattle.net_base.proofs.Found.{lines_len, pairs_len}

-- Which list an element is in.

pub owner-found : (start : ℕ) (ends : List ℕ) (count k i : ℕ) → Rise start ends count → start ≤ k → k < last_end start ends → i ≤ length ends
    → ((j : ℕ) → j < i → get_or ends j 0 ≤ k) → ((j : ℕ) → i ≤ j → j < length ends → k < get_or ends j 0)
    → (i < length ends) × (start_at start ends i ≤ k) × (k < get_or ends i 0)
owner-found start [] count k i rise from below within before behind = absurd (omega (arith, from, below))
owner-found start (end ∷ ends) count k zero rise from below within before behind = (omega arith, from, behind 0 (omega arith) (omega arith))
owner-found start (end ∷ ends) count k (suc i) rise from below within before behind =
    let rest = owner-found end ends count k i rise.1 (before 0 (omega arith)) below (omega (arith, within)) (λ j h. before (suc j) (omega (arith, h))) (λ j le h. behind (suc j) (omega (arith, le)) (omega (arith, h))) in
    (omega (arith, rest.0), rest.1, rest.2)

pub rise-between : (start : ℕ) (ends : List ℕ) (count i j d : ℕ) → Rise start ends count → i ≤ j → j < length ends → get_or ends i d ≤ get_or ends j d
rise-between start [] count i j d rise le h = absurd (omega (arith, h))
rise-between start (end ∷ ends) count zero zero d rise le h = omega arith
rise-between start (end ∷ ends) count zero (suc j) d rise le h = first-le end ends count j d rise.1 (omega (arith, h))
  where
    first-le : (s : ℕ) (es : List ℕ) (c k e : ℕ) → Rise s es c → k < length es → s ≤ get_or es k e
    first-le s [] c k e r lt = absurd (omega (arith, lt))
    first-le s (x ∷ es) c zero e r lt = r.0
    first-le s (x ∷ es) c (suc k) e r lt = omega (arith, r.0, first-le x es c k e r.1 (omega (arith, lt)))
rise-between start (end ∷ ends) count (suc i) zero d rise le h = absurd (omega (arith, le))
rise-between start (end ∷ ends) count (suc i) (suc j) d rise le h = rise-between end ends count i j d rise.1 (omega (arith, le)) (omega (arith, h))

rise-from : (start : ℕ) (ends : List ℕ) (count i : ℕ) → Rise start ends count → i ≤ length ends → start ≤ start_at start ends i
rise-from start ends count zero rise h = omega arith
rise-from start [] count (suc i) rise h = absurd (omega (arith, h))
rise-from start (end ∷ ends) count (suc i) rise h = omega (arith, rise.0, rise-from end ends count i rise.1 (omega (arith, h)))

-- Lines.

pub lines-length : (tuple line : ℕ) (lines : List (List NdbPair)) → length (line_spots tuple line lines) ≡ length lines
lines-length tuple line [] = refl
lines-length tuple line (pairs ∷ lines) = ap suc (lines-length tuple (line + 1) lines)

line-at : (tuple line : ℕ) (lines : List (List NdbPair)) (i : ℕ) (d : Spot) → i < length lines → get_or (line_spots tuple line lines) i d ≡ spot_at tuple (line + i)
line-at tuple line [] i d h = absurd (omega (arith, h))
line-at tuple line (pairs ∷ lines) zero d h = let same : line ≡ line + 0 = omega arith in ap (spot_at tuple) same
line-at tuple line (pairs ∷ lines) (suc i) d h =
    let same : line + 1 + i ≡ line + suc i = omega arith in
    line-at tuple (line + 1) lines i d (omega (arith, h)) ∙ ap (spot_at tuple) same

line-placed : (number start : ℕ) (ends : List ℕ) (xs : List (List NdbPair)) (i k : ℕ) (d : Spot) → Rise start ends (length xs) → i < length ends → start_at start ends i ≤ k → k < get_or ends i 0
    → get_or (all_lines number (parts start ends xs)) (k - start) d ≡ spot_at (number + i) (k - start_at start ends i)
line-placed number start [] xs i k d rise h from below = absurd (omega (arith, h))
line-placed number start (end ∷ ends) xs zero k d rise h from below =
    let front : List (List NdbPair) = slice_range xs start end in
    let len : length front ≡ end - start = slice-length xs start end rise.0 (rise-start end ends (length xs) rise.1) in
    let within : k - start < length front = omega (arith, len, from, below) in
    let one : number ≡ number + 0 = omega arith in
    let none : 0 + (k - start) ≡ k - start = omega arith in
    get_or_append_left (line_spots number 0 front) (all_lines (number + 1) (parts end ends xs)) d (k - start) (omega (arith, lines-length number 0 front, within))
    ∙ line-at number 0 front (k - start) d within
    ∙ ap (spot_at number) none
    ∙ ap (λ (n : ℕ). spot_at n (k - start)) one
line-placed number start (end ∷ ends) xs (suc i) k d rise h from below =
    let front : List (List NdbPair) = slice_range xs start end in
    let len : length front ≡ end - start = slice-length xs start end rise.0 (rise-start end ends (length xs) rise.1) in
    let le : end ≤ k = omega (arith, from, rise-from end ends (length xs) i rise.1 (omega (arith, h))) in
    let rest : k - start - (end - start) ≡ k - end = omega (arith, le, rise.0) in
    let up : number + 1 + i ≡ number + suc i = omega arith in
    get_or-append_right (line_spots number 0 front) (all_lines (number + 1) (parts end ends xs)) (end - start) (k - start) d (lines-length number 0 front ∙ len) (omega (arith, le))
    ∙ ap (λ (j : ℕ). get_or (all_lines (number + 1) (parts end ends xs)) j d) rest
    ∙ line-placed (number + 1) end ends xs i k d rise.1 (omega (arith, h)) from below
    ∙ ap (λ (n : ℕ). spot_at n (k - start_at end ends i)) up

pub all_lines-length : (number start : ℕ) (ends : List ℕ) (xs : List (List NdbPair)) → Rise start ends (length xs) → length (all_lines number (parts start ends xs)) ≡ last_end start ends - start
all_lines-length number start [] xs rise = omega arith
all_lines-length number start (end ∷ ends) xs rise =
    omega (
      arith,
      length-append (line_spots number 0 (slice_range xs start end)) (all_lines (number + 1) (parts end ends xs)),
      lines-length number 0 (slice_range xs start end),
      slice-length xs start end rise.0 (rise-start end ends (length xs) rise.1),
      all_lines-length (number + 1) end ends xs rise.1,
      rise.0,
      last-from end ends (length xs) rise.1,
    )
  where
    last-from : (s : ℕ) (es : List ℕ) (c : ℕ) → Rise s es c → s ≤ last_end s es
    last-from s [] c r = omega arith
    last-from s (e ∷ es) c r = omega (arith, r.0, last-from e es c r.1)

-- Pairs.

pair-placed : (start : ℕ) (ends : List ℕ) (xs : List NdbPair) (places : List Spot) (i k : ℕ) (p : NdbPair) (d : Spot) → Rise start ends (length xs) → length places ≡ length ends → i < length ends → start_at start ends i ≤ k → k < get_or ends i 0
    → get_or (spread (parts start ends xs) places) (k - start) d ≡ get_or places i d
pair-placed start [] xs places i k p d rise same h from below = absurd (omega (arith, h))
pair-placed start (end ∷ ends) xs [] i k p d rise same h from below = absurd (omega (arith, same))
pair-placed start (end ∷ ends) xs (place ∷ places) zero k p d rise same h from below =
    let front : List NdbPair = slice_range xs start end in
    let len : length front ≡ end - start = slice-length xs start end rise.0 (rise-start end ends (length xs) rise.1) in
    let within : k - start < length front = omega (arith, len, from, below) in
    get_or_append_left (map (λ (pair : NdbPair). place) front) (spread (parts end ends xs) places) d (k - start) (omega (arith, length-map front (λ (pair : NdbPair). place), within))
    ∙ get_or-map (λ (pair : NdbPair). place) front (k - start) p d within
pair-placed start (end ∷ ends) xs (place ∷ places) (suc i) k p d rise same h from below =
    let front : List NdbPair = slice_range xs start end in
    let len : length front ≡ end - start = slice-length xs start end rise.0 (rise-start end ends (length xs) rise.1) in
    let le : end ≤ k = omega (arith, from, rise-from end ends (length xs) i rise.1 (omega (arith, h))) in
    let rest : k - start - (end - start) ≡ k - end = omega (arith, le, rise.0) in
    get_or-append_right (map (λ (pair : NdbPair). place) front) (spread (parts end ends xs) places) (end - start) (k - start) d (length-map front (λ (pair : NdbPair). place) ∙ len) (omega (arith, le))
    ∙ ap (λ (j : ℕ). get_or (spread (parts end ends xs) places) j d) rest
    ∙ pair-placed end ends xs places i k p d rise.1 (omega (arith, same)) (omega (arith, h)) from below

-- what is said of the ends that are seen is said of those that are kept
pub owned : (seen ends : List ℕ) (count number i : ℕ) → ((n : ℕ) → Rise 0 seen n → number < last_end 0 seen → Owns seen number i) → seen ≡ ends → Rise 0 ends count → number < last_end 0 ends → Owns ends number i
owned seen ends count number i said same rise below = subst (λ (es : List ℕ). (n : ℕ) → Rise 0 es n → number < last_end 0 es → Owns es number i) same said count rise below

-- the pair with this number stands on the line that it is in, of the tuple which that one is in
pub spot_found : (r : Runs) (number line tuple first : ℕ) (p : NdbPair) (d : Spot) → AreSound r → AreWhole r → Owns r.lines.items number line → Owns r.tuples.items line tuple → first ≡ start_at 0 r.tuples.items tuple
    → spot_at tuple (line - first) ≡ get_or (pair_spots (tuples_in r)) number d
spot_found r number line tuple first p d sound whole on in_tuple is =
    let lines : List (List NdbPair) = lines_in r in
    let tuples_rise : Rise 0 r.tuples.items (length lines) = subst (Rise 0 r.tuples.items) (lines_len r) sound.tuples in
    let flat : flat_map (λ t. t) (tuples_in r) ≡ lines = flat-all r.tuples.items lines tuples_rise (whole.tuples ∙ lines_len r) in
    let count : length (all_lines 0 (tuples_in r)) ≡ length r.lines.items = omega (arith, all_lines-length 0 0 r.tuples.items lines tuples_rise, whole.tuples) in
    let zeroless : number - 0 ≡ number = omega arith in
    let none : line - 0 ≡ line = omega arith in
    let plain : tuple ≡ 0 + tuple = omega arith in
    ap (λ (f : ℕ). spot_at tuple (line - f)) is
    ∙ ap (λ (n : ℕ). spot_at n (line - start_at 0 r.tuples.items tuple)) plain
    ∙ sym (line-placed 0 0 r.tuples.items lines tuple line d tuples_rise in_tuple.within in_tuple.begins in_tuple.behind)
    ∙ ap (λ (j : ℕ). get_or (all_lines 0 (tuples_in r)) j d) none
    ∙ sym (pair-placed 0 r.lines.items (pairs_in r) (all_lines 0 (tuples_in r)) line number p d (subst (Rise 0 r.lines.items) (pairs_len r) sound.lines) count on.within on.begins on.behind)
    ∙ ap (λ (j : ℕ). get_or (spread lines (all_lines 0 (tuples_in r))) j d) zeroless
    ∙ ap (λ (ls : List (List NdbPair)). get_or (spread ls (all_lines 0 (tuples_in r))) number d) (sym flat)
