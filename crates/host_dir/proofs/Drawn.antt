-- Drawn ports.
use Rattle.std.proofs.Common.{◌≡◌, ℕ, zero, suc, ◌+◌, ◌-◌, ◌<◌, ◌≤◌, ◌≢◌, ◌⊎◌, inl, inr, nat_eq, Bool, true, false, List, [], ◌∷◌, Some, None, refl, sym, subst, ◌∙◌, arith}
use Rattle.std.specs.List.{list_any}
use Rattle.std.proofs.lemmas.Bool.{cases_eq}
use Rattle.std.proofs.lemmas.List.Folds.{list_any-append}
use Rattle.net_base.specs.Directory.{drawn_port, with_port}
use Rattle.host_dir.specs.Ports.{AreUsed, drawn}

-- a port more is used
pub one_more : (first port : ℕ) (used : List ℕ) → AreUsed first port used → list_any (nat_eq port) used ≡ true → AreUsed first (port + 1) used
unfolding AreUsed
one_more first port used before here p low high = by (cases_eq p port)
  where
    by : (p ≡ port) ⊎ (p ≢ port) → list_any (nat_eq p) used ≡ true
    by (inl same) = subst (λ (q : ℕ). list_any (nat_eq q) used ≡ true) (sym same) here
    by (inr apart) = before p low (omega (arith, high, apart))

-- none is used yet
pub none_yet : (first : ℕ) (used : List ℕ) → AreUsed first first used
unfolding AreUsed
none_yet first used p low high = absurd (omega (arith, low, high))

-- two runs in a row
pub both_runs : (first middle next : ℕ) (used : List ℕ) → AreUsed first middle used → AreUsed middle next used → AreUsed first next used
unfolding AreUsed
both_runs first middle next used before after p low high = by (cases p)
  where
    cases : (p : ℕ) → (p < middle) ⊎ (middle ≤ p)
    cases p = grind arith

    by : (p < middle) ⊎ (middle ≤ p) → list_any (nat_eq p) used ≡ true
    by (inl under) = before p low under
    by (inr over) = after p over high

past : (port : ℕ) (used : List ℕ) → port < 65536 → list_any (nat_eq port) used ≡ true
    → drawn_port (65536 - port) port used ≡ drawn_port (65536 - (port + 1)) (port + 1) used
past port used below here =
    let left : 65536 - port ≡ suc (65536 - (port + 1)) = grind (arith, below) in
    rw (left, here) (refl)

-- ports that are used aren't drawn
passed : (n first next : ℕ) (used : List ℕ) → next ≡ first + n → next ≤ 65536 → AreUsed first next used
    → drawn_port (65536 - first) first used ≡ drawn_port (65536 - next) next used
unfolding AreUsed
passed zero first next used is below are =
    let same : first ≡ next = omega (arith, is) in
    subst (λ (n : ℕ). drawn_port (65536 - first) first used ≡ drawn_port (65536 - n) n used) same refl
passed (suc n) first next used is below are =
    past first used (omega (arith, is, below)) (are first (omega arith) (omega (arith, is)))
    ∙ passed n (first + 1) next used (omega (arith, is)) below (λ p low high. are p (omega (arith, low)) high)

from_first : (next : ℕ) (used : List ℕ) → 5000 ≤ next → next ≤ 65536 → AreUsed 5000 next used → drawn_port (65536 - 5000) 5000 used ≡ drawn_port (65536 - next) next used
from_first next used least most are = passed (next - 5000) 5000 next used (omega (arith, least)) most are

-- the first port that isn't used is drawn
pub drawn_is : (next : ℕ) (used : List ℕ) → 5000 ≤ next → next < 65536 → AreUsed 5000 next used → list_any (nat_eq next) used ≡ false → Some next ≡ drawn used
unfolding drawn
drawn_is next used least below are unused =
    let left : 65536 - next ≡ suc (65536 - (next + 1)) = grind (arith, below) in
    sym (from_first next used least (omega (arith, below)) are ∙ rw (left, unused) (refl))

-- none is drawn where all are used
pub none_drawn : (next : ℕ) (used : List ℕ) → 5000 ≤ next → next ≤ 65536 → 65536 ≤ next → AreUsed 5000 next used → None ≡ drawn used
unfolding drawn
none_drawn next used least most all are =
    let none : 65536 - next ≡ 0 = omega (arith, all) in
    sym (from_first next used least most are ∙ rw (none) (refl))

-- more ports may be used
pub more_used : (port next : ℕ) (used : List ℕ) → AreUsed 5000 next used → AreUsed 5000 next (with_port port used)
unfolding AreUsed
more_used port next used are p low high = by (list_any (nat_eq port) used) refl (are p low high)
  where
    by : (b : Bool) → list_any (nat_eq port) used ≡ b → list_any (nat_eq p) used ≡ true → list_any (nat_eq p) (with_port port used) ≡ true
    by true e there = rw e there
    by false e there = rw e (list_any-append (nat_eq p) used (port ∷ []) ∙ rw there refl)
