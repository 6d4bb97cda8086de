-- A legal history is short: each caller has so many entries, and there are few callers.
use Rattle.std.proofs.Common.{◌≡◌, ℕ, zero, suc, ◌+◌, ◌*◌, ◌^◌, ◌<◌, ◌≤◌, ◌==◌, nat_le, Bool, true, false, cond, List, [], ◌∷◌, ◌++◌, length, refl, ap, subst, arith, length-append}
use Rattle.std.proofs.lemmas.Bool.{and_parts, leb-true}
use Rattle.std.proofs.lemmas.Bool.Decides.{nat_tests}
use Rattle.net_base.specs.declared.history.Entry.{Entry}
use Rattle.net_base.specs.declared.world.World.{World}
use Rattle.net_base.specs.Callers.{caller_count}
use Rattle.net_base.specs.Legal.{IsLegalBy, MayFollowBy}
use Rattle.net_base.specs.Next.{by}
use Rattle.net_base.specs.Tasks.{Tasks}
use Rattle.net_base.specs.World.{IsWorld}
use Rattle.history_laws.proofs.Histories.{by_entries}
use Rattle.net_base.proofs.Shared.{once_below, one_if, times_below}

-- the entries of the first n callers
abbrev totals : ℕ → List Entry → ℕ
totals zero h = 0
totals (suc n) h = totals n h + length (by h n)

totals-nil : (n : ℕ) → totals n [] ≡ 0
totals-nil zero = refl
totals-nil (suc n) = let r = totals-nil n in omega arith

totals-cons : (n : ℕ) (x : Entry) (h : List Entry) → totals n (x ∷ h) ≡ totals n h + times_below x.caller n
totals-cons zero x h = refl
totals-cons (suc n) x h = let r = totals-cons n x h in next r (x.caller == n)
  where
    next : totals n (x ∷ h) ≡ totals n h + times_below x.caller n → (b : Bool)
        → totals n (x ∷ h) + length (cond b (x ∷ by h n) (by h n)) ≡ totals n h + length (by h n) + (times_below x.caller n + one_if b)
    next r true = omega arith
    next r false = omega arith

abbrev Below : ℕ → List Entry → Type 0
Below n [] = Unit {0}
Below n (x ∷ h) = (x.caller < n) × Below n h

all_counted : (n : ℕ) (h : List Entry) → Below n h → totals n h ≡ length h
all_counted n [] f = totals-nil n
all_counted n (x ∷ h) f = let r = all_counted n h f.1 in let t = totals-cons n x h in let o = once_below x.caller n f.0 in omega arith

totals-bound : (n b : ℕ) (h : List Entry) → ((c : ℕ) → length (by h c) ≤ b) → totals n h ≤ n * b
totals-bound zero b h f = omega arith
totals-bound (suc n) b h f = let r = totals-bound n b h f in let o = f n in let e : suc n * b ≡ n * b + b = grind (arith) in omega arith

by-append : (c : ℕ) (h k : List Entry) → by (h ++ k) c ≡ by h c ++ by k c
by-append c [] k = refl
by-append c (x ∷ h) k = next (x.caller == c) (by-append c h k)
  where
    next : (b : Bool) → by (h ++ k) c ≡ by h c ++ by k c → cond b (x ∷ by (h ++ k) c) (by (h ++ k) c) ≡ cond b (x ∷ by h c) (by h c) ++ by k c
    next true r = ap (λ (ys : List Entry). x ∷ ys) r
    next false r = r

below-append : (n : ℕ) (h k : List Entry) → Below n h → Below n k → Below n (h ++ k)
below-append n [] k f g = g
below-append n (x ∷ h) k f g = (f.0, below-append n h k f.1 g)

pub record Few (w : World) (h : List Entry) : Type 0 where
  pub callers : Below (caller_count w) h
  pub each : (c : ℕ) → length (by h c) ≤ 131072

few_more : {ts : Tasks} (w : World) (h : List Entry) (x : Entry) → MayFollowBy ts w h x → Few w h → Few w (h ++ x ∷ [])
few_more w h x may f = record {
  callers = below-append (caller_count w) h (x ∷ []) f.callers (may.is_known.1, tt);
  each = λ c. rw (by-append c h (x ∷ [])) (next c (x.caller == c) refl);
}
  where
    next : (c : ℕ) (b : Bool) → (x.caller == c) ≡ b → length (by h c ++ cond b (x ∷ []) []) ≤ 131072
    next c true is =
        let same : x.caller ≡ c = grind (arith, nat_tests) in
        let room : length (by h c) < 131072 = subst (λ (d : ℕ). length (by h d) < 131072) same may.has_room in
        omega (arith, length-append (by h c) (x ∷ []))
    next c false is = let r = f.each c in omega (arith, length-append {A = Entry} (by h c) [])

few_callers : (w : World) → IsWorld w → caller_count w ≤ 37
few_callers w world =
    let scripts : length w.scripts ≤ 32 = leb-true (length w.scripts) 32 world.few_scripts in
    let media : length w.media ≤ 4 = leb-true (length w.media) 4 (and_parts (nat_le 1 (length w.media)) (nat_le (length w.media) 4) world.some_media).1 in
    omega arith

-- what holds of each legal history
pub few_legal : {ts : Tasks} (w : World) (h : List Entry) → IsLegalBy ts w h → Few w h
few_legal w h legal = by_entries w (λ (k : List Entry). Few w k) (record { callers = tt; each = λ c. omega arith }) (λ k x before may f. few_more w k x may f) h legal

pub legal_short : {ts : Tasks} (w : World) → IsWorld w → (h : List Entry) → IsLegalBy ts w h → length h < 2 ^ 31
legal_short w world h legal =
    let few = few_legal w h legal in
    let counted = all_counted (caller_count w) h few.callers in
    let all = totals-bound (caller_count w) 131072 h few.each in
    let callers = few_callers w world in
    omega arith
