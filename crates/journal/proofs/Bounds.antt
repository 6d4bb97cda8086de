-- A lawful history is short.
use Rattle.std.proofs.Common.{ap, ◌≡◌, ℕ, zero, suc, ◌+◌, ◌*◌, ◌<◌, ◌≤◌, ◌==◌, Bool, true, false, List, [], ◌∷◌, ◌++◌, length, if◌then◌else◌, refl, sym, subst, ◌∙◌, arith, append_assoc, length-append}
use Rattle.std.proofs.lemmas.List.{append-nil}
use Rattle.std.proofs.lemmas.Bool.Decides.{nat_tests}
use Rattle.net_base.specs.declared.noted.Noted.{Noted}
use Rattle.net_base.specs.declared.noted.Number.TheVariants as number
use mathlib.Core.List.{IsPrefix}
use Rattle.net_base.specs.Stamped.{at, at_from}
use Rattle.journal.specs.declared.law.Roster.{Roster}
use Rattle.journal.specs.Rule.{Lawful}
use Rattle.journal.proofs.Lists.{at-snoc, at-append}
use Rattle.net_base.proofs.Shared.{once_below, one_if, times_below}

abbrev totals : ℕ → ℕ → List Noted → ℕ
totals zero m log = 0
totals (suc n) m log = totals n m log + length (at_from (number.Caller n) m log)

totals-nil : (n m : ℕ) → totals n m [] ≡ 0
totals-nil zero m = refl
totals-nil (suc n) m = let r = totals-nil n m in omega arith

totals-cons : (n m : ℕ) (x : Noted) (xs : List Noted) → totals n m (x ∷ xs) ≡ totals n (m + 1) xs + times_below x.entry.caller n
totals-cons zero m x xs = refl
totals-cons (suc n) m x xs = let r = totals-cons n m x xs in next r (x.entry.caller == n)
  where
    next : totals n m (x ∷ xs) ≡ totals n (m + 1) xs + times_below x.entry.caller n → (b : Bool)
        → totals n m (x ∷ xs) + length (if b then (m, x) ∷ at_from (number.Caller n) (m + 1) xs else at_from (number.Caller n) (m + 1) xs)
        ≡ totals n (m + 1) xs + length (at_from (number.Caller n) (m + 1) xs) + (times_below x.entry.caller n + one_if b)
    next r true = omega arith
    next r false = omega arith

-- each entry has a caller below n
abbrev Below : ℕ → List Noted → Type 0
Below n [] = Unit {0}
Below n (x ∷ xs) = (x.entry.caller < n) × Below n xs

all_counted : (n m : ℕ) (log : List Noted) → Below n log → totals n m log ≡ length log
all_counted n m [] h = totals-nil n m
all_counted n m (x ∷ xs) h = let r = all_counted n (m + 1) xs h.1 in let t = totals-cons n m x xs in let o = once_below x.entry.caller n h.0 in omega arith

totals-bound : (n b : ℕ) (log : List Noted) → ((c : ℕ) → length (at (number.Caller c) log) ≤ b) → totals n 0 log ≤ n * b
totals-bound zero b log h = omega arith
totals-bound (suc n) b log h = let r = totals-bound n b log h in let o = h n in let e : suc n * b ≡ n * b + b = grind (arith) in omega arith

lawful-below : (r : Roster) (log p q : List Noted) → Lawful r log → log ≡ p ++ q → Below r.callers q
lawful-below r log p [] l e = tt
lawful-below r log p (x ∷ q) l e = ((l p x q e).caller, lawful-below r log (p ++ x ∷ []) q l (e ∙ sym (append_assoc p (x ∷ []) q)))

lawful-room : (r : Roster) (c : ℕ) (log p q : List Noted) → Lawful r log → log ≡ p ++ q → length (at (number.Caller c) p) ≤ 131072 → length (at (number.Caller c) log) ≤ 131072
lawful-room r c log p [] l e h = rw (e, append-nil p) h
lawful-room r c log p (x ∷ q) l e h = lawful-room r c log (p ++ x ∷ []) q l (e ∙ sym (append_assoc p (x ∷ []) q)) (rw (at-snoc (number.Caller c) p x) (next (x.entry.caller == c) refl))
  where
    next : (b : Bool) → (x.entry.caller == c) ≡ b → length (if b then at (number.Caller c) p ++ (length p, x) ∷ [] else at (number.Caller c) p) ≤ 131072
    next true same =
        let s : x.entry.caller ≡ c = grind (arith, nat_tests) in
        let room : length (at (number.Caller c) p) < 131072 = subst (λ (d : ℕ). length (at (number.Caller d) p) < 131072) s ((l p x q e).room) in
        omega (arith, length-append (at (number.Caller c) p) ((length p, x) ∷ []))
    next false other = h

pub lawful-short : (r : Roster) (log : List Noted) → r.callers ≤ 37 → Lawful r log → length log ≤ 4849664
lawful-short r log few l =
    let counted = all_counted r.callers 0 log (lawful-below r log [] log l refl) in
    let each = totals-bound r.callers 131072 log (λ c. lawful-room r c log [] log l refl (omega arith)) in
    omega arith

-- where all entries of each caller were seen, all was seen
pub whole_seen : (r : Roster) (log seen : List Noted) → Lawful r log → IsPrefix seen log → ((c : ℕ) → c < r.callers → at (number.Caller c) seen ≡ at (number.Caller c) log) → log ≡ seen
whole_seen r log seen l (rest, e) all = next rest e
  where
    more : (x : Noted) (n : ℕ) (q : List Noted) (xs : List (ℕ × Noted)) → (b : Bool) → (x.entry.caller == x.entry.caller) ≡ b
        → xs ≡ xs ++ (if b then (n, x) ∷ at_from (number.Caller x.entry.caller) (n + 1) q else at_from (number.Caller x.entry.caller) (n + 1) q) → ⊥
    more x n q xs true e same = absurd (omega (arith, ap length same, length-append xs ((n, x) ∷ at_from (number.Caller x.entry.caller) (n + 1) q)))
    more x n q xs false e same = absurd (grind (arith, nat_tests))

    next : (rest : List Noted) → seen ++ rest ≡ log → log ≡ seen
    next [] e = sym e ∙ append-nil seen
    next (x ∷ q) e =
        let k = number.Caller x.entry.caller in
        let same = all x.entry.caller (l seen x q (sym e)).caller in
        absurd (more x (length seen) q (at k seen) (x.entry.caller == x.entry.caller) refl (same ∙ (ap (at k) (sym e) ∙ at-append k seen (x ∷ q))))

pub lawful-before : (r : Roster) (log rest : List Noted) → Lawful r (log ++ rest) → Lawful r log
lawful-before r log rest l p x q e = l p x (q ++ rest) (ap (λ (ys : List Noted). ys ++ rest) e ∙ append_assoc p (x ∷ q) rest)
