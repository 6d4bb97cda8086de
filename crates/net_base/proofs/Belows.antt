-- A number below a bound is met once, going through the numbers up to there.
use Rattle.std.proofs.Common.{◌≡◌, ℕ, zero, suc, ◌+◌, ◌<◌, ◌≤◌, ◌==◌, Bool, true, false, refl, if◌then◌else◌, arith}
use Rattle.std.proofs.lemmas.Bool.Decides.{nat_tests}

abbrev pub one_if : Bool → ℕ
one_if b = if b then 1 else 0

-- 1 where c is below n
abbrev pub times_below : ℕ → ℕ → ℕ
times_below c zero = 0
times_below c (suc n) = times_below c n + one_if (c == n)

never_below : (c n : ℕ) → n ≤ c → times_below c n ≡ 0
never_below c zero le = refl
never_below c (suc n) le = let r = never_below c n (omega arith) in let e : (c == n) ≡ false = grind (arith, nat_tests) in rw e (omega arith)

pub once_below : (c n : ℕ) → c < n → times_below c n ≡ 1
once_below c zero lt = absurd (omega arith)
once_below c (suc n) lt = next (once_below c n) (c == n) refl
  where
    next : (c < n → times_below c n ≡ 1) → (b : Bool) → (c == n) ≡ b → times_below c n + one_if b ≡ 1
    next f true e = let s : c ≡ n = grind (arith, nat_tests) in let r = never_below c n (omega arith) in omega arith
    next f false e = let s : c < n = grind (arith, nat_tests) in let r = f s in omega arith
