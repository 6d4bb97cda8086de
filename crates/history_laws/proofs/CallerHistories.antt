-- A history is its callers' entries.
use Rattle.std.proofs.Common.{◌≡◌, ℕ, zero, suc, ◌+◌, ◌<◌, ◌≤◌, ◌==◌, Bool, true, false, List, [], ◌∷◌, length, drop, Some, slice_get, if◌then◌else◌, refl, sym, ap, subst, ◌∙◌, arith}
use Rattle.std.proofs.lemmas.Bool.{eq-eqb}
use Rattle.net_base.specs.declared.history.Entry.{Entry}
use Rattle.net_base.specs.declared.noted.Number.TheVariants as number
use Rattle.net_base.specs.Stamped.{entries_from, of_caller}

-- a caller's entries with their stamps, from a stamp on
abbrev own : ℕ → ℕ → List Entry → List (ℕ × Entry)
own c s h = entries_from (number.Caller c) s h

abbrev first_stamp : List (ℕ × Entry) → ℕ
first_stamp [] = 0
first_stamp (p ∷ ps) = p.0

abbrev first_entry : Entry → List (ℕ × Entry) → Entry
first_entry d [] = d
first_entry d (p ∷ ps) = p.1

-- no stamp is below the one that a list begins with
not_before : (c s m : ℕ) (x : Entry) (ps : List (ℕ × Entry)) (k : List Entry) → own c s k ≡ (m, x) ∷ ps → s ≤ m
not_before c s m x ps [] is = absurd (omega (arith, ap length is))
not_before c s m x ps (y ∷ k) is = at (y.caller == c) is (not_before c (s + 1) m x ps k)
  where
    at : (b : Bool) → (if b then (s, y) ∷ own c (s + 1) k else own c (s + 1) k) ≡ (m, x) ∷ ps → (own c (s + 1) k ≡ (m, x) ∷ ps → s + 1 ≤ m) → s ≤ m
    at true is later = let same : s ≡ m = ap first_stamp is in omega (arith, same)
    at false is later = omega (arith, later is)

-- the first entry is its caller's
begins : (s : ℕ) (x : Entry) (h : List Entry) → own x.caller s (x ∷ h) ≡ (s, x) ∷ own x.caller (s + 1) h
begins s x h = rw (eq-eqb x.caller x.caller refl) refl

same_first : (s : ℕ) (x y : Entry) (h k : List Entry) → own x.caller s (x ∷ h) ≡ own x.caller s (y ∷ k) → x ≡ y
same_first s x y h k same = at (y.caller == x.caller) (sym (begins s x h) ∙ same)
  where
    at : (b : Bool) → (s, x) ∷ own x.caller (s + 1) h ≡ (if b then (s, y) ∷ own x.caller (s + 1) k else own x.caller (s + 1) k) → x ≡ y
    at true is = ap (first_entry x) is
    at false is = absurd (omega (arith, not_before x.caller (s + 1) s x (own x.caller (s + 1) h) k (sym is)))

same_rest : (c s : ℕ) (x : Entry) (h k : List Entry) → own c s (x ∷ h) ≡ own c s (x ∷ k) → own c (s + 1) h ≡ own c (s + 1) k
same_rest c s x h k same = at (x.caller == c) same
  where
    at : (b : Bool) → (if b then (s, x) ∷ own c (s + 1) h else own c (s + 1) h) ≡ (if b then (s, x) ∷ own c (s + 1) k else own c (s + 1) k)
        → own c (s + 1) h ≡ own c (s + 1) k
    at true is = ap (drop 1) is
    at false is = is

abbrev AreBelow : ℕ → List Entry → Type 0
AreBelow n h = (i : ℕ) (x : Entry) → slice_get h i ≡ Some x → x.caller < n

are_alike : (n s : ℕ) (h k : List Entry) → AreBelow n h → AreBelow n k → ((c : ℕ) → c < n → own c s h ≡ own c s k) → h ≡ k
are_alike n s [] [] of_h of_k same = refl
are_alike n s [] (y ∷ k) of_h of_k same = absurd (omega (arith, ap length (same y.caller (of_k zero y refl) ∙ begins s y k)))
are_alike n s (x ∷ h) [] of_h of_k same = absurd (omega (arith, ap length (sym (begins s x h) ∙ same x.caller (of_h zero x refl))))
are_alike n s (x ∷ h) (y ∷ k) of_h of_k same =
    let first : x ≡ y = same_first s x y h k (same x.caller (of_h zero x refl)) in
    let rest : h ≡ k = are_alike n (s + 1) h k (λ i z at. of_h (suc i) z at) (λ i z at. of_k (suc i) z at)
    (λ c lt. same_rest c s y h k (subst (λ (z : Entry). own c s (z ∷ h) ≡ own c s (y ∷ k)) first (same c lt))) in
    ap (λ (z : Entry). z ∷ h) first ∙ ap (λ (zs : List Entry). y ∷ zs) rest

pub by_callers : (n : ℕ) (h k : List Entry) → AreBelow n h → AreBelow n k → ((c : ℕ) → c < n → of_caller c h ≡ of_caller c k) → h ≡ k
by_callers n h k of_h of_k same = are_alike n 0 h k of_h of_k same
