-- All pairs in a row are those of all tuples.
use Rattle.std.proofs.Common.{◌≡◌, ℕ, ◌<◌, List, [], ◌∷◌, ◌++◌, length, drop, get_or, refl, sym, ap, subst, ◌∙◌, arith, append_assoc, append-nil}
use Rattle.std.specs.Prelude.{flat_map, slice_range}
use Rattle.std.proofs.lemmas.List.Concat.{flat_map-append}
use Rattle.std.proofs.lemmas.List.Folds.{drop_split}
use Rattle.net_base.specs.Ndb.{NdbPair}
use Rattle.net_base.specs.declared.ndb.runs.Runs.{Runs}
use Rattle.net_base.specs.Parts.{last_end, parts, Rise}
use Rattle.net_base.specs.Store.{pairs_in, lines_in, tuples_in, all_pairs, AreSound, AreWhole}
use Rattle.net_base.proofs.Growth.{drop-all}
use Rattle.net_base.proofs.Found.{lines_len, pairs_len}

flat-split : {X : Type 0} (start : ℕ) (ends : List ℕ) (xs : List X) → Rise start ends (length xs) → flat_map (λ l. l) (parts start ends xs) ++ drop (last_end start ends) xs ≡ drop start xs
flat-split start [] xs rise = refl
flat-split start (end ∷ ends) xs rise =
    append_assoc (slice_range xs start end) (flat_map (λ l. l) (parts end ends xs)) (drop (last_end end ends) xs)
    ∙ ap (λ rest. slice_range xs start end ++ rest) (flat-split end ends xs rise.1)
    ∙ sym (drop_split xs start end rise.0)

pub flat-all : {X : Type 0} (ends : List ℕ) (xs : List X) → Rise 0 ends (length xs) → last_end 0 ends ≡ length xs → flat_map (λ l. l) (parts 0 ends xs) ≡ xs
flat-all ends xs rise last =
    sym (append-nil (flat_map (λ l. l) (parts 0 ends xs)))
    ∙ ap (λ rest. flat_map (λ l. l) (parts 0 ends xs) ++ rest) (sym (ap (λ (n : ℕ). drop n xs) last ∙ drop-all xs))
    ∙ flat-split 0 ends xs rise

flat-flat : {X : Type 0} (tss : List (List (List X))) → flat_map (λ t. flat_map (λ l. l) t) tss ≡ flat_map (λ l. l) (flat_map (λ t. t) tss)
flat-flat [] = refl
flat-flat (t ∷ tss) =
    ap (λ rest. flat_map (λ l. l) t ++ rest) (flat-flat tss)
    ∙ sym (flat_map-append (λ l. l) t (flat_map (λ t. t) tss))

pub all_is : (r : Runs) → AreSound r → AreWhole r → all_pairs (tuples_in r) ≡ pairs_in r
all_is r sound whole =
    flat-flat (tuples_in r)
    ∙ ap (λ (ls : List (List NdbPair)). flat_map (λ l. l) ls) (flat-all r.tuples.items (lines_in r) (subst (Rise 0 r.tuples.items) (lines_len r) sound.tuples) (whole.tuples ∙ lines_len r))
    ∙ flat-all r.lines.items (pairs_in r) (subst (Rise 0 r.lines.items) (pairs_len r) sound.lines) (whole.lines ∙ pairs_len r)

pub all_count : (r : Runs) → AreSound r → AreWhole r → length r.pairs.items ≡ length (all_pairs (tuples_in r))
all_count r sound whole = pairs_len r ∙ ap length (sym (all_is r sound whole))

pub all_within : (r : Runs) (number : ℕ) → AreSound r → AreWhole r → number < length (all_pairs (tuples_in r)) → number < length r.pairs.items
all_within r number sound whole h = omega (arith, all_count r sound whole, h)

pub all_at : (r : Runs) (number : ℕ) (d : NdbPair) → AreSound r → AreWhole r → get_or (pairs_in r) number d ≡ get_or (all_pairs (tuples_in r)) number d
all_at r number d sound whole = ap (λ (ps : List NdbPair). get_or ps number d) (sym (all_is r sound whole))
