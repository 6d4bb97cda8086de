-- Lists in a row, by where they end: what is added behind them, and which one stands at a place.
use Rattle.std.proofs.Common.{◌≡◌, ℕ, ◌+◌, ◌-◌, ◌≤◌, ◌<◌, List, [], ◌∷◌, ◌++◌, length, take, drop, get_or, refl, sym, ap, ◌∙◌, arith}
use Rattle.std.specs.Prelude.{zero, suc, slice_range}
use Rattle.std.proofs.lemmas.List.{take_all, take-append-le, drop-append-le, length-drop, length-take-le, get_or-take, get_or-drop}
use Rattle.net_base.specs.Parts.{last_end, start_at, parts, Rise}

pub rise-start : (start : ℕ) (ends : List ℕ) (count : ℕ) → Rise start ends count → start ≤ count
rise-start start [] count rise = rise
rise-start start (end ∷ ends) count rise = omega (arith, rise.0, rise-start end ends count rise.1)

pub rise-last : (start : ℕ) (ends : List ℕ) (count : ℕ) → Rise start ends count → last_end start ends ≤ count
rise-last start [] count rise = rise
rise-last start (end ∷ ends) count rise = rise-last end ends count rise.1

pub rise-more : (start : ℕ) (ends : List ℕ) (count more : ℕ) → count ≤ more → Rise start ends count → Rise start ends more
rise-more start [] count more le rise = omega (arith, le, rise)
rise-more start (end ∷ ends) count more le rise = (rise.0, rise-more end ends count more le rise.1)

pub rise-push : (start : ℕ) (ends : List ℕ) (count : ℕ) → Rise start ends count → Rise start (ends ++ count ∷ []) count
rise-push start [] count rise = (rise, omega arith)
rise-push start (end ∷ ends) count rise = (rise.0, rise-push end ends count rise.1)

pub last-push : (start : ℕ) (ends : List ℕ) (end : ℕ) → last_end start (ends ++ end ∷ []) ≡ end
last-push start [] end = refl
last-push start (e ∷ ends) end = last-push e ends end

-- a list within the first one is not changed by what stands behind that
pub slice-more : {X : Type 0} (xs ys : List X) (a b : ℕ) → a ≤ b → b ≤ length xs → slice_range (xs ++ ys) a b ≡ slice_range xs a b
slice-more xs ys a b le within =
    ap (take (b - a)) (drop-append-le a xs ys (omega (arith, le, within)))
    ∙ take-append-le (b - a) (drop a xs) ys (omega (arith, le, within, length-drop a xs))

pub slice-rest : {X : Type 0} (xs : List X) (a : ℕ) → slice_range xs a (length xs) ≡ drop a xs
slice-rest xs a = take_all (length xs - a) (drop a xs) (omega (arith, length-drop a xs))

pub parts-more : {X : Type 0} (start : ℕ) (ends : List ℕ) (xs ys : List X) → Rise start ends (length xs) → parts start ends (xs ++ ys) ≡ parts start ends xs
parts-more start [] xs ys rise = refl
parts-more start (end ∷ ends) xs ys rise =
    ap (λ l. l ∷ parts end ends (xs ++ ys)) (slice-more xs ys start end rise.0 (rise-start end ends (length xs) rise.1))
    ∙ ap (λ ls. slice_range xs start end ∷ ls) (parts-more end ends xs ys rise.1)

pub parts-push : {X : Type 0} (start : ℕ) (ends : List ℕ) (end : ℕ) (xs : List X) → parts start (ends ++ end ∷ []) xs ≡ parts start ends xs ++ slice_range xs (last_end start ends) end ∷ []
parts-push start [] end xs = refl
parts-push start (e ∷ ends) end xs = ap (λ ls. slice_range xs start e ∷ ls) (parts-push e ends end xs)

pub parts-length : {X : Type 0} (start : ℕ) (ends : List ℕ) (xs : List X) → length (parts start ends xs) ≡ length ends
parts-length start [] xs = refl
parts-length start (end ∷ ends) xs = ap suc (parts-length end ends xs)

pub parts-at : {X : Type 0} (start : ℕ) (ends : List ℕ) (xs : List X) (i : ℕ) → i < length ends → get_or (parts start ends xs) i [] ≡ slice_range xs (start_at start ends i) (get_or ends i 0)
parts-at start [] xs i h = absurd (omega (arith, h))
parts-at start (end ∷ ends) xs zero h = refl
parts-at start (end ∷ ends) xs (suc i) h = parts-at end ends xs i (omega (arith, h))

-- a list begins where the one before it ends
pub start-is : (start : ℕ) (ends : List ℕ) (i : ℕ) → i < length ends → start_at start ends (suc i) ≡ get_or ends i 0
start-is start [] i h = absurd (omega (arith, h))
start-is start (end ∷ []) zero h = refl
start-is start (end ∷ e ∷ ends) zero h = refl
start-is start (end ∷ ends) (suc i) h = start-is end ends i (omega (arith, h))

pub rise-at : (start : ℕ) (ends : List ℕ) (count i : ℕ) → Rise start ends count → i < length ends → (start_at start ends i ≤ get_or ends i 0) × (get_or ends i 0 ≤ count)
rise-at start [] count i rise h = absurd (omega (arith, h))
rise-at start (end ∷ ends) count zero rise h = (rise.0, rise-start end ends count rise.1)
rise-at start (end ∷ ends) count (suc i) rise h = rise-at end ends count i rise.1 (omega (arith, h))

-- what stands at a place of a list within another
pub slice-at : {X : Type 0} (xs : List X) (a b i : ℕ) (d : X) → i < b - a → get_or (slice_range xs a b) i d ≡ get_or xs (a + i) d
slice-at xs a b i d h = get_or-take (b - a) (drop a xs) i d h ∙ get_or-drop a xs i d

pub slice-length : {X : Type 0} (xs : List X) (a b : ℕ) → a ≤ b → b ≤ length xs → length (slice_range xs a b) ≡ b - a
slice-length xs a b le within = length-take-le (b - a) (drop a xs) (omega (arith, le, within, length-drop a xs))

-- where a list begins that isn't the first one
pub begin_is : (ends : List ℕ) (number : ℕ) → (number ≡ 0 → ⊥) → number ≤ length ends → get_or ends (number - 1) 0 ≡ start_at 0 ends number
begin_is ends zero some within = absurd (some refl)
begin_is ends (suc i) some within =
    let e : suc i - 1 ≡ i = omega arith in
    ap (λ (k : ℕ). get_or ends k 0) e ∙ sym (start-is 0 ends i (omega (arith, within)))
