-- A pace counts rounds in a row and calls in vain as its story has them.
use Rattle.std.proofs.Common.{◌≡◌, ◌≢◌, ◌≤◌, ◌<◌, ◌^◌, ◌*◌, ◌+◌, ◌-◌, ◌%◌, ◌↔◌, ℕ, Bool, true, false, List, [], ◌∷◌, Some, length, min, nat_lt, IsTrue, if◌then◌else◌, refl, ap, sym, subst, ◌∙◌, arith}
use Rattle.std.proofs.lemmas.Nat.{pow_below, shl_whole}
use Rattle.workers.specs.declared.pace.Pace.{Pace}
use Rattle.workers.specs.Calling.{IsPaceOf, IsTime, Story, after_call, after_round, in_a_row, in_vain, rounds_after}

-- a row of one round more, or none
row_by : (b : Bool) (n m : ℕ) → n ≡ min m 4294967295
    → (if b then min (n + 1) 4294967295 else 0) ≡ min (if b then m + 1 else 0) 4294967295
row_by true n m is = omega (arith, is)
row_by false n m is = refl

pub round_seen : (s : Story) (groups : ℕ) (old new : Pace) → new ≡ record old { together = if nat_lt 1 groups then min (old.together + 1) 4294967295 else 0 } → IsPaceOf s old
    → IsPaceOf (after_round groups s) new
round_seen s groups old new is was = record {
  together = ap (λ (p : Pace). p.together) is ∙ row_by (nat_lt 1 groups) old.together (in_a_row s.rounds) was.together;
  vain = λ few. ap (λ (p : Pace). p.vain) is ∙ was.vain few;
  asked = ap (λ (p : Pace). p.threads) is ∙ was.asked;
}

-- each call is in vain at most once
vain_within : (calls : List Bool) → in_vain calls ≤ length calls
vain_within [] = omega arith
vain_within (true ∷ calls) = omega (arith, vain_within calls)
vain_within (false ∷ calls) = omega (arith, vain_within calls)

vain_by : (paid : Bool) (calls : List Bool) (n : ℕ) → length (paid ∷ calls) < 2 ^ 32 → n ≡ in_vain calls
    → (if paid then n - 1 else min (n + 1) 4294967295) ≡ in_vain (paid ∷ calls)
vain_by true calls n few is = ap (λ (k : ℕ). k - 1) is
vain_by false calls n few is = omega (arith, few, is, vain_within calls)

pub call_seen : (s : Story) (paid : Bool) (old : Pace) (vain : ℕ) → vain ≡ (if paid then old.vain - 1 else min (old.vain + 1) 4294967295) → IsPaceOf s old
    → IsPaceOf (after_call paid s) (record old { together = 0; vain = vain })
call_seen s paid old vain is was = record {
  together = refl;
  vain = λ few. is ∙ vain_by paid s.calls old.vain few (was.vain (omega (arith, few)));
  asked = was.asked;
}

-- two, doubled so often
pub doubled : (n : ℕ) → n ≤ 12 → (2 * 2 ^ n) % 2 ^ 32 ≡ 2 * 2 ^ n
doubled n few = shl_whole 2 2 n 32 (omega arith) (omega (arith, few))

-- so few that they can be counted
few_rounds : (vain : ℕ) → rounds_after vain < 16384
few_rounds vain = let below = pow_below (min (vain - 8) 12) 13 (omega arith) in omega (arith, below)

-- what a pace tells of its numbers it tells of its story
pub time_told : (s : Story) (groups : ℕ) (p : Pace) (b : Bool) → IsPaceOf (after_round groups s) p → length s.calls < 2 ^ 32
    → (IsTrue b ↔ ((p.threads ≢ Some false) × (rounds_after p.vain ≤ p.together))) → IsTrue b ↔ IsTime (after_round groups s)
time_told s groups p b is few told = (
  (λ yes.
      let both = told.0 yes in
      (subst (λ t. t ≢ Some false) is.asked both.0, reaches (in_a_row (groups ∷ s.rounds)) p.vain (in_vain s.calls) p.together (is.vain few) is.together both.1)),
  (λ time.
      told.1 (subst (λ t. t ≢ Some false) (sym is.asked) time.0, reached (in_a_row (groups ∷ s.rounds)) p.vain (in_vain s.calls) p.together (is.vain few) is.together time.1)),
)
  where
    reaches : (m vain v n : ℕ) → vain ≡ v → n ≡ min m 4294967295 → rounds_after vain ≤ n → rounds_after v ≤ m
    reaches m vain v n same is le = subst (λ (k : ℕ). rounds_after k ≤ m) same (omega (arith, is, le))

    reached : (m vain v n : ℕ) → vain ≡ v → n ≡ min m 4294967295 → rounds_after v ≤ m → rounds_after vain ≤ n
    reached m vain v n same is le = subst (λ (k : ℕ). rounds_after k ≤ n) (sym same) (let few = few_rounds v in omega (arith, is, le, few))
