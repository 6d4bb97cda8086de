-- Tuples that are copied, a pair, a line and a tuple at a time.
use Rattle.std.proofs.Common.{◌≡◌, ℕ, ◌+◌, ◌-◌, ◌≤◌, ◌<◌, List, [], ◌∷◌, ◌++◌, length, take, drop, get_or, sym, ap, ◌∙◌, arith, append-nil, append_assoc}
use Rattle.std.specs.Prelude.{slice_range}
use Rattle.std.proofs.lemmas.List.{take_all, take_more, get_or-drop, length-drop}
use Rattle.net_base.specs.Ndb.{NdbPair}
use Rattle.net_base.specs.Store.{Grown, pair_with, with_pair, with_pairs, line_ended, tuple_ended, with_tuples}

abbrev pub Tuples : Type 0
Tuples = List (List (List NdbPair))

abbrev grown_at : Tuples → List (List NdbPair) → List NdbPair → Grown
grown_at tuples lines pairs = record { tuples = tuples; lines = lines; pairs = pairs }

pub pairs-none : (line : List NdbPair) (g : Grown) → g ≡ with_pairs (take 0 line) g
pairs-none line g = ap (λ (ps : List NdbPair). grown_at g.tuples g.lines ps) (sym (append-nil g.pairs))

pub pairs-next : (line : List NdbPair) (n : ℕ) (pair : NdbPair) (attr value : List ℕ) (g out new : Grown) → n < length line → pair ≡ get_or line n pair → attr ≡ pair.attr → value ≡ pair.value → new ≡ with_pair (pair_with attr value) out → out ≡ with_pairs (take n line) g → new ≡ with_pairs (take (n + 1) line) g
pairs-next line n pair attr value g out new h is ea ev en eo =
    en
    ∙ ap (λ (a : List ℕ). with_pair (pair_with a value) out) ea
    ∙ ap (λ (v : List ℕ). with_pair (pair_with pair.attr v) out) ev
    ∙ ap (λ (o : Grown). with_pair pair o) eo
    ∙ ap (λ (ps : List NdbPair). grown_at g.tuples g.lines ps)
    (append_assoc g.pairs (take n line) (pair ∷ []) ∙ ap (λ (p : NdbPair). g.pairs ++ (take n line ++ p ∷ [])) is ∙ ap (λ (ps : List NdbPair). g.pairs ++ ps) (sym (take_more line n pair h)))

pub pairs-all : (line : List NdbPair) (n : ℕ) (g out new : Grown) → length line ≤ n → out ≡ with_pairs (take n line) g → new ≡ line_ended out → new ≡ line_ended (with_pairs line g)
pairs-all line n g out new all eo en =
    en ∙ ap (λ (o : Grown). line_ended o) eo ∙ ap (λ (ps : List NdbPair). line_ended (with_pairs ps g)) (take_all n line all)

-- lines are added where none and no pair is open
abbrev pub lines_added : List (List NdbPair) → Grown → Grown
lines_added lines g = grown_at g.tuples lines []

pub lines-none : (tuple : List (List NdbPair)) (g : Grown) → g.lines ≡ [] → g.pairs ≡ [] → g ≡ lines_added (take 0 tuple) g
lines-none tuple g lines pairs = ap (λ (ls : List (List NdbPair)). grown_at g.tuples ls g.pairs) lines ∙ ap (λ (ps : List NdbPair). grown_at g.tuples [] ps) pairs

pub lines-next : (tuple : List (List NdbPair)) (n : ℕ) (line : List NdbPair) (g out new : Grown) → n < length tuple → line ≡ get_or tuple n [] → new ≡ line_ended (with_pairs line out) → out ≡ lines_added (take n tuple) g → new ≡ lines_added (take (n + 1) tuple) g
lines-next tuple n line g out new h is en eo =
    en
    ∙ ap (λ (o : Grown). line_ended (with_pairs line o)) eo
    ∙ ap (λ (l : List NdbPair). grown_at g.tuples (take n tuple ++ l ∷ []) []) is
    ∙ ap (λ (ls : List (List NdbPair)). grown_at g.tuples ls []) (sym (take_more tuple n [] h))

pub lines-all : (tuple : List (List NdbPair)) (n : ℕ) (g out new : Grown) → length tuple ≤ n → g.lines ≡ [] → g.pairs ≡ [] → out ≡ lines_added (take n tuple) g → new ≡ tuple_ended out → new ≡ with_tuples (tuple ∷ []) g
lines-all tuple n g out new all lines pairs eo en =
    en ∙ ap (λ (o : Grown). tuple_ended o) eo
    ∙ ap (λ (ls : List (List NdbPair)). grown_at (g.tuples ++ ls ∷ []) [] []) (take_all n tuple all)
    ∙ ap (λ (ls : List (List NdbPair)). grown_at (g.tuples ++ tuple ∷ []) ls []) (sym lines)
    ∙ ap (λ (ps : List NdbPair). grown_at (g.tuples ++ tuple ∷ []) g.lines ps) (sym pairs)

pub tuples-none : (db : Tuples) (first : ℕ) (g : Grown) → g ≡ with_tuples (slice_range db first first) g
tuples-none db first g =
    ap (λ (ts : Tuples). grown_at ts g.lines g.pairs) (sym (append-nil g.tuples))
    ∙ ap (λ (n : ℕ). with_tuples (take n (drop first db)) g) (let none : 0 ≡ first - first = omega arith in none)

pub tuples-next : (db : Tuples) (first place : ℕ) (tuple : List (List NdbPair)) (g out new : Grown) → first ≤ place → place < length db → tuple ≡ get_or db place [] → new ≡ with_tuples (tuple ∷ []) out → out ≡ with_tuples (slice_range db first place) g → new ≡ with_tuples (slice_range db first (place + 1)) g
tuples-next db first place tuple g out new le h is en eo =
    let k : ℕ = place - first in
    let within : k < length (drop first db) = omega (arith, length-drop first db, le, h) in
    let at : get_or (drop first db) k [] ≡ get_or db place [] = get_or-drop first db k [] ∙ ap (λ (i : ℕ). get_or db i []) (let back : first + k ≡ place = omega (arith, le) in back) in
    let more : take (k + 1) (drop first db) ≡ take k (drop first db) ++ tuple ∷ [] = take_more (drop first db) k [] within ∙ ap (λ (t : List (List NdbPair)). take k (drop first db) ++ t ∷ []) (at ∙ sym is) in
    en ∙ ap (λ (o : Grown). with_tuples (tuple ∷ []) o) eo
    ∙ ap (λ (ts : Tuples). grown_at ts g.lines g.pairs) (append_assoc g.tuples (take k (drop first db)) (tuple ∷ []) ∙ ap (λ (ts : Tuples). g.tuples ++ ts) (sym more))
    ∙ ap (λ (n : ℕ). with_tuples (take n (drop first db)) g) (let count : k + 1 ≡ place + 1 - first = omega (arith, le) in count)

-- no line and no pair is open behind whole tuples
pub none-open : (tuples : Tuples) (g out : Grown) → out ≡ with_tuples tuples g → g.lines ≡ [] → g.pairs ≡ [] → (out.lines ≡ []) × (out.pairs ≡ [])
none-open tuples g out is lines pairs = (ap (λ (o : Grown). o.lines) is ∙ lines, ap (λ (o : Grown). o.pairs) is ∙ pairs)
