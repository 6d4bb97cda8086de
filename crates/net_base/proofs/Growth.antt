-- Runs that grow by a pair, by the end of a line and by the end of a tuple.
use Rattle.std.proofs.Common.{◌≡◌, ℕ, List, [], ◌∷◌, ◌++◌, length, drop, refl, sym, ap, subst, ◌∙◌, arith}
use Rattle.std.proofs.lemmas.List.{drop-append-le, length-append}
use Rattle.net_base.specs.Ndb.{NdbPair}
use Rattle.net_base.specs.declared.ndb.runs.Mark.{Mark}
use Rattle.net_base.specs.Parts.{last_end, parts, Rise}
use Rattle.net_base.specs.declared.ndb.runs.Runs.{Runs}
use Rattle.net_base.specs.Store.{pair_with, marked, MarksRise, Grown, grown, with_pair, line_ended, tuple_ended, pairs_in, AreSound}
use Rattle.net_base.proofs.Cuts.{rise-last, rise-more, rise-push, last-push, slice-rest, parts-more, parts-push, parts-length}
use Rattle.net_base.proofs.Marks.{marked-length, marked-push, marks-push, mark_of}

abbrev Pairs : Type 0
Pairs = List NdbPair

-- what the runs show, by their lists
abbrev pub shown : List ℕ → List ℕ → Pairs → Grown
shown lines tuples pairs = record {
  tuples = parts 0 tuples (parts 0 lines pairs);
  lines = drop (last_end 0 tuples) (parts 0 lines pairs);
  pairs = drop (last_end 0 lines) pairs;
}

-- nothing is left behind all of a list
pub drop-all : {X : Type 0} (xs : List X) → drop (length xs) xs ≡ []
drop-all [] = refl
drop-all (x ∷ xs) = drop-all xs

pub pair-shown : (lines tuples : List ℕ) (pairs : Pairs) (pair : NdbPair) → Rise 0 lines (length pairs) → shown lines tuples (pairs ++ pair ∷ []) ≡ record { tuples = parts 0 tuples (parts 0 lines pairs); lines = drop (last_end 0 tuples) (parts 0 lines pairs); pairs = drop (last_end 0 lines) pairs ++ pair ∷ [] }
pair-shown lines tuples pairs pair rise =
    ap (λ (ls : List Pairs). record { tuples = parts 0 tuples ls; lines = drop (last_end 0 tuples) ls; pairs = drop (last_end 0 lines) (pairs ++ pair ∷ []) }) (parts-more 0 lines pairs (pair ∷ []) rise)
    ∙ ap (λ (ps : Pairs). record { tuples = parts 0 tuples (parts 0 lines pairs); lines = drop (last_end 0 tuples) (parts 0 lines pairs); pairs = ps }) (drop-append-le (last_end 0 lines) pairs (pair ∷ []) (rise-last 0 lines (length pairs) rise))

line-added : (lines : List ℕ) (pairs : Pairs) → parts 0 (lines ++ length pairs ∷ []) pairs ≡ parts 0 lines pairs ++ drop (last_end 0 lines) pairs ∷ []
line-added lines pairs =
    parts-push 0 lines (length pairs) pairs
    ∙ ap (λ (ps : Pairs). parts 0 lines pairs ++ ps ∷ []) (slice-rest pairs (last_end 0 lines))

pub line-shown : (lines tuples : List ℕ) (pairs : Pairs) → Rise 0 tuples (length lines) → shown (lines ++ length pairs ∷ []) tuples pairs ≡ record { tuples = parts 0 tuples (parts 0 lines pairs); lines = drop (last_end 0 tuples) (parts 0 lines pairs) ++ drop (last_end 0 lines) pairs ∷ []; pairs = [] }
line-shown lines tuples pairs rise =
    let rises : Rise 0 tuples (length (parts 0 lines pairs)) = subst (Rise 0 tuples) (sym (parts-length 0 lines pairs)) rise in
    let last : Pairs = drop (last_end 0 lines) pairs in
    ap (λ (ls : List Pairs). record { tuples = parts 0 tuples ls; lines = drop (last_end 0 tuples) ls; pairs = drop (last_end 0 (lines ++ length pairs ∷ [])) pairs }) (line-added lines pairs)
    ∙ ap (λ (ts : List (List Pairs)). record { tuples = ts; lines = drop (last_end 0 tuples) (parts 0 lines pairs ++ last ∷ []); pairs = drop (last_end 0 (lines ++ length pairs ∷ [])) pairs }) (parts-more 0 tuples (parts 0 lines pairs) (last ∷ []) rises)
    ∙ ap (λ (ls : List Pairs). record { tuples = parts 0 tuples (parts 0 lines pairs); lines = ls; pairs = drop (last_end 0 (lines ++ length pairs ∷ [])) pairs }) (drop-append-le (last_end 0 tuples) (parts 0 lines pairs) (last ∷ []) (rise-last 0 tuples (length (parts 0 lines pairs)) rises))
    ∙ ap (λ (ps : Pairs). record { tuples = parts 0 tuples (parts 0 lines pairs); lines = drop (last_end 0 tuples) (parts 0 lines pairs) ++ last ∷ []; pairs = ps }) (ap (λ (n : ℕ). drop n pairs) (last-push 0 lines (length pairs)) ∙ drop-all pairs)

pub tuple-shown : (lines tuples : List ℕ) (pairs : Pairs) → shown lines (tuples ++ length lines ∷ []) pairs ≡ record { tuples = parts 0 tuples (parts 0 lines pairs) ++ drop (last_end 0 tuples) (parts 0 lines pairs) ∷ []; lines = []; pairs = drop (last_end 0 lines) pairs }
tuple-shown lines tuples pairs =
    let all : List Pairs = parts 0 lines pairs in
    let same : length lines ≡ length all = sym (parts-length 0 lines pairs) in
    ap (λ (n : ℕ). shown lines (tuples ++ n ∷ []) pairs) same
    ∙ ap (λ (ts : List (List Pairs)). record { tuples = ts; lines = drop (last_end 0 (tuples ++ length all ∷ [])) all; pairs = drop (last_end 0 lines) pairs })
    (parts-push 0 tuples (length all) all ∙ ap (λ (ls : List Pairs). parts 0 tuples all ++ ls ∷ []) (slice-rest all (last_end 0 tuples)))
    ∙ ap (λ (ls : List Pairs). record { tuples = parts 0 tuples all ++ drop (last_end 0 tuples) all ∷ []; lines = ls; pairs = drop (last_end 0 lines) pairs }) (ap (λ (n : ℕ). drop n all) (last-push 0 tuples (length all)) ∙ drop-all all)

-- What runs show as they grow.

rises-pairs : (r : Runs) → AreSound r → Rise 0 r.lines.items (length (pairs_in r))
rises-pairs r sound = subst (Rise 0 r.lines.items) (sym (marked-length 0 r.pairs.items r.bytes.items)) sound.lines

pub pushed-sound : (old new : Runs) (attr value : List ℕ) → AreSound old → new.bytes.items ≡ old.bytes.items ++ (attr ++ value) → new.pairs.items ≡ old.pairs.items ++ mark_of (length old.bytes.items) attr value ∷ [] → new.lines.items ≡ old.lines.items → new.tuples.items ≡ old.tuples.items → AreSound new
pushed-sound old new attr value sound eb ep el et =
    let mark = mark_of (length old.bytes.items) attr value in
    record {
      bytes = subst (λ (bs : List ℕ). MarksRise 0 new.pairs.items (length bs)) (sym eb) (subst (λ (ms : List Mark). MarksRise 0 ms (length (old.bytes.items ++ (attr ++ value)))) (sym ep) (marks-push 0 old.pairs.items old.bytes.items attr value sound.bytes));
      lines = subst (λ (ls : List ℕ). Rise 0 ls (length new.pairs.items)) (sym el) (rise-more 0 old.lines.items (length old.pairs.items) (length new.pairs.items) (omega (arith, ap length ep, length-append old.pairs.items (mark ∷ []))) sound.lines);
      tuples = subst (λ (ts : List ℕ). Rise 0 ts (length new.lines.items)) (sym et) (subst (λ (ls : List ℕ). Rise 0 old.tuples.items (length ls)) (sym el) sound.tuples);
    }

pub pushed-shown : (old new : Runs) (attr value : List ℕ) → AreSound old → new.bytes.items ≡ old.bytes.items ++ (attr ++ value) → new.pairs.items ≡ old.pairs.items ++ mark_of (length old.bytes.items) attr value ∷ [] → new.lines.items ≡ old.lines.items → new.tuples.items ≡ old.tuples.items → grown new ≡ with_pair (pair_with attr value) (grown old)
pushed-shown old new attr value sound eb ep el et =
    let pairs : marked 0 new.pairs.items new.bytes.items ≡ pairs_in old ++ pair_with attr value ∷ [] =
    ap (λ (ms : List Mark). marked 0 ms new.bytes.items) ep
    ∙ ap (marked 0 (old.pairs.items ++ mark_of (length old.bytes.items) attr value ∷ [])) eb
    ∙ marked-push 0 old.pairs.items old.bytes.items attr value sound.bytes in
    ap (λ (ls : List ℕ). shown ls new.tuples.items (pairs_in new)) el
    ∙ ap (λ (ts : List ℕ). shown old.lines.items ts (pairs_in new)) et
    ∙ ap (λ (ps : Pairs). shown old.lines.items old.tuples.items ps) pairs
    ∙ pair-shown old.lines.items old.tuples.items (pairs_in old) (pair_with attr value) (rises-pairs old sound)

pub line-sound : (r : Runs) (lines : List ℕ) (place : ℕ) → AreSound r → place ≡ length r.pairs.items → lines ≡ r.lines.items ++ place ∷ [] → Rise 0 lines (length r.pairs.items) × Rise 0 r.tuples.items (length lines)
line-sound r lines place sound ep el =
    let is : lines ≡ r.lines.items ++ length r.pairs.items ∷ [] = el ∙ ap (λ (n : ℕ). r.lines.items ++ n ∷ []) ep in (
      subst (λ (ls : List ℕ). Rise 0 ls (length r.pairs.items)) (sym is) (rise-push 0 r.lines.items (length r.pairs.items) sound.lines),
      rise-more 0 r.tuples.items (length r.lines.items) (length lines) (omega (arith, ap length el, length-append r.lines.items (place ∷ []))) sound.tuples,
    )

pub line-grown : (r : Runs) (lines : List ℕ) (place : ℕ) → AreSound r → place ≡ length r.pairs.items → lines ≡ r.lines.items ++ place ∷ [] → shown lines r.tuples.items (pairs_in r) ≡ line_ended (grown r)
line-grown r lines place sound ep el =
    ap (λ (ls : List ℕ). shown ls r.tuples.items (pairs_in r)) (el ∙ ap (λ (n : ℕ). r.lines.items ++ n ∷ []) (ep ∙ sym (marked-length 0 r.pairs.items r.bytes.items)))
    ∙ line-shown r.lines.items r.tuples.items (pairs_in r) sound.tuples

pub tuple-sound : (r : Runs) (tuples : List ℕ) (place : ℕ) → AreSound r → place ≡ length r.lines.items → tuples ≡ r.tuples.items ++ place ∷ [] → Rise 0 tuples (length r.lines.items)
tuple-sound r tuples place sound ep et =
    subst (λ (ts : List ℕ). Rise 0 ts (length r.lines.items)) (sym (et ∙ ap (λ (n : ℕ). r.tuples.items ++ n ∷ []) ep)) (rise-push 0 r.tuples.items (length r.lines.items) sound.tuples)

pub tuple-grown : (r : Runs) (tuples : List ℕ) (place : ℕ) → place ≡ length r.lines.items → tuples ≡ r.tuples.items ++ place ∷ [] → shown r.lines.items tuples (pairs_in r) ≡ tuple_ended (grown r)
tuple-grown r tuples place ep et =
    ap (λ (ts : List ℕ). shown r.lines.items ts (pairs_in r)) (et ∙ ap (λ (n : ℕ). r.tuples.items ++ n ∷ []) ep)
    ∙ tuple-shown r.lines.items r.tuples.items (pairs_in r)
