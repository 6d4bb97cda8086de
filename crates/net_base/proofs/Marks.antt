-- Pairs by their marks: what is added behind them, and which one stands at a place.
use Rattle.std.proofs.Common.{◌≡◌, ℕ, ◌+◌, ◌-◌, ◌≤◌, ◌<◌, List, [], ◌∷◌, ◌++◌, length, take, drop, get_or, refl, sym, ap, subst, ◌∙◌, arith}
use Rattle.std.specs.Prelude.{zero, suc, slice_range}
use Rattle.std.proofs.lemmas.List.{take_all, take_at, drop_at, drop-drop, length-append}
use Rattle.net_base.specs.Ndb.{NdbPair}
use Rattle.net_base.specs.declared.ndb.runs.Mark.{Mark}
use Rattle.net_base.specs.Store.{pair_with, pair_between, marked, value_at, MarksRise}
use Rattle.net_base.proofs.Cuts.{slice-more}

pub marks-start : (start : ℕ) (marks : List Mark) (count : ℕ) → MarksRise start marks count → start ≤ count
marks-start start [] count rise = omega (arith, rise)
marks-start start (mark ∷ marks) count rise = omega (arith, rise.0, rise.1, marks-start mark.value marks count rise.2)

pub marked-length : (start : ℕ) (marks : List Mark) (bytes : List ℕ) → length (marked start marks bytes) ≡ length marks
marked-length start [] bytes = refl
marked-length start (mark ∷ marks) bytes = ap suc (marked-length mark.value marks bytes)

-- a mark behind so many bytes
abbrev pub mark_of : ℕ → List ℕ → List ℕ → Mark
mark_of start attr value = record { attr = start + length attr; value = start + length attr + length value }

attr-is : (bytes attr value : List ℕ) → slice_range (bytes ++ (attr ++ value)) (length bytes) (length bytes + length attr) ≡ attr
attr-is bytes attr value =
    ap (λ (xs : List ℕ). take (length bytes + length attr - length bytes) xs) (drop_at bytes (attr ++ value) (length bytes) refl)
    ∙ take_at attr value (length bytes + length attr - length bytes) (omega arith)

value-is : (bytes attr value : List ℕ) → slice_range (bytes ++ (attr ++ value)) (length bytes + length attr) (length bytes + length attr + length value) ≡ value
value-is bytes attr value =
    ap (λ (xs : List ℕ). take (length bytes + length attr + length value - (length bytes + length attr)) xs)
    (sym (drop-drop (length attr) (length bytes) (bytes ++ (attr ++ value))) ∙ ap (drop (length attr)) (drop_at bytes (attr ++ value) (length bytes) refl) ∙ drop_at attr value (length attr) refl)
    ∙ take_all (length bytes + length attr + length value - (length bytes + length attr)) value (omega arith)

pair-is : (start : ℕ) (bytes attr value : List ℕ) → start ≡ length bytes → pair_between start (mark_of (length bytes) attr value) (bytes ++ (attr ++ value)) ≡ pair_with attr value
pair-is start bytes attr value e =
    ap (λ (n : ℕ). pair_between n (mark_of (length bytes) attr value) (bytes ++ (attr ++ value))) e
    ∙ ap (λ (a : List ℕ). pair_with a (slice_range (bytes ++ (attr ++ value)) (length bytes + length attr) (length bytes + length attr + length value))) (attr-is bytes attr value)
    ∙ ap (pair_with attr) (value-is bytes attr value)

pub pair-more : (start : ℕ) (mark : Mark) (bytes more : List ℕ) → start ≤ mark.attr → mark.attr ≤ mark.value → mark.value ≤ length bytes → pair_between start mark (bytes ++ more) ≡ pair_between start mark bytes
pair-more start mark bytes more first second within =
    ap (λ (a : List ℕ). pair_with a (slice_range (bytes ++ more) mark.attr mark.value)) (slice-more bytes more start mark.attr first (omega (arith, second, within)))
    ∙ ap (pair_with (slice_range bytes start mark.attr)) (slice-more bytes more mark.attr mark.value second within)

pub marked-push : (start : ℕ) (marks : List Mark) (bytes attr value : List ℕ) → MarksRise start marks (length bytes) → marked start (marks ++ mark_of (length bytes) attr value ∷ []) (bytes ++ (attr ++ value)) ≡ marked start marks bytes ++ pair_with attr value ∷ []
marked-push start [] bytes attr value rise = ap (λ (p : NdbPair). p ∷ []) (pair-is start bytes attr value rise)
marked-push start (mark ∷ marks) bytes attr value rise =
    ap (λ (p : NdbPair). p ∷ marked mark.value (marks ++ mark_of (length bytes) attr value ∷ []) (bytes ++ (attr ++ value)))
    (pair-more start mark bytes (attr ++ value) rise.0 rise.1 (marks-start mark.value marks (length bytes) rise.2))
    ∙ ap (λ (ps : List NdbPair). pair_between start mark bytes ∷ ps) (marked-push mark.value marks bytes attr value rise.2)

marks-rise : (start : ℕ) (marks : List Mark) (count : ℕ) (attr value : List ℕ) → MarksRise start marks count → MarksRise start (marks ++ mark_of count attr value ∷ []) (count + length attr + length value)
marks-rise start [] count attr value rise = (omega (arith, rise), omega arith, refl)
marks-rise start (mark ∷ marks) count attr value rise = (rise.0, rise.1, marks-rise mark.value marks count attr value rise.2)

pub marks-push : (start : ℕ) (marks : List Mark) (bytes attr value : List ℕ) → MarksRise start marks (length bytes) → MarksRise start (marks ++ mark_of (length bytes) attr value ∷ []) (length (bytes ++ (attr ++ value)))
marks-push start marks bytes attr value rise =
    subst (MarksRise start (marks ++ mark_of (length bytes) attr value ∷ [])) (omega (arith, length-append bytes (attr ++ value), length-append attr value))
    (marks-rise start marks (length bytes) attr value rise)

-- a pair begins where the one before it ends
pub value-is-at : (start : ℕ) (marks : List Mark) (i : ℕ) (d : Mark) → i < length marks → value_at start marks (suc i) ≡ (get_or marks i d).value
value-is-at start [] i d h = absurd (omega (arith, h))
value-is-at start (mark ∷ []) zero d h = refl
value-is-at start (mark ∷ m ∷ marks) zero d h = refl
value-is-at start (mark ∷ marks) (suc i) d h = value-is-at mark.value marks i d (omega (arith, h))

-- the pair at a place
pub marked-at : (start : ℕ) (marks : List Mark) (bytes : List ℕ) (i : ℕ) (m : Mark) (d : NdbPair) → i < length marks → get_or (marked start marks bytes) i d ≡ pair_between (value_at start marks i) (get_or marks i m) bytes
marked-at start [] bytes i m d h = absurd (omega (arith, h))
marked-at start (mark ∷ marks) bytes zero m d h = refl
marked-at start (mark ∷ marks) bytes (suc i) m d h = marked-at mark.value marks bytes i m d (omega (arith, h))

-- its mark stands within the bytes
pub marks-at : (start : ℕ) (marks : List Mark) (count i : ℕ) (d : Mark) → MarksRise start marks count → i < length marks → (value_at start marks i ≤ (get_or marks i d).attr) × ((get_or marks i d).attr ≤ (get_or marks i d).value) × ((get_or marks i d).value ≤ count)
marks-at start [] count i d rise h = absurd (omega (arith, h))
marks-at start (mark ∷ marks) count zero d rise h = (rise.0, rise.1, marks-start mark.value marks count rise.2)
marks-at start (mark ∷ marks) count (suc i) d rise h = marks-at mark.value marks count i d rise.2 (omega (arith, h))

-- a pair that isn't the first one begins where the one before it ends
pub value-begin : (marks : List Mark) (number : ℕ) (d : Mark) → (number ≡ 0 → ⊥) → number ≤ length marks → (get_or marks (number - 1) d).value ≡ value_at 0 marks number
value-begin marks zero d some within = absurd (some refl)
value-begin marks (suc i) d some within =
    let e : suc i - 1 ≡ i = omega arith in
    ap (λ (k : ℕ). (get_or marks k d).value) e ∙ sym (value-is-at 0 marks i d (omega (arith, within)))

-- where a pair begins and ends, by its mark
pub mark-within : (marks : List Mark) (count number start : ℕ) (mark : Mark) → MarksRise 0 marks count → number < length marks → start ≡ value_at 0 marks number → mark ≡ get_or marks number mark → (start ≤ mark.attr) × (mark.attr ≤ mark.value) × (mark.value ≤ count)
mark-within marks count number start mark rise h es em =
    let at = marks-at 0 marks count number mark rise h in
    subst (λ (m : Mark). (start ≤ m.attr) × (m.attr ≤ m.value) × (m.value ≤ count)) (sym em)
    (subst (λ (s : ℕ). (s ≤ (get_or marks number mark).attr) × ((get_or marks number mark).attr ≤ (get_or marks number mark).value) × ((get_or marks number mark).value ≤ count)) (sym es) at)

pub pair-found : (marks : List Mark) (bytes : List ℕ) (number start : ℕ) (mark : Mark) (d : NdbPair) → number < length marks → start ≡ value_at 0 marks number → mark ≡ get_or marks number mark → pair_between start mark bytes ≡ get_or (marked 0 marks bytes) number d
pair-found marks bytes number start mark d h es em =
    ap (λ (s : ℕ). pair_between s mark bytes) es
    ∙ ap (λ (m : Mark). pair_between (value_at 0 marks number) m bytes) em
    ∙ sym (marked-at 0 marks bytes number mark d h)
