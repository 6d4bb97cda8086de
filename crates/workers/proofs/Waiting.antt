-- How many rounds in a row are waited for, by how many calls were in vain.
use Rattle.std.proofs.Common.{◌≡◌, ◌≤◌, ◌<◌, ◌^◌, ◌*◌, ◌+◌, ◌-◌, ℕ, Bool, false, List, ◌∷◌, min, ap, ◌∙◌, arith}
use Rattle.std.proofs.lemmas.Grind.{pow_more}
use Rattle.workers.specs.Calling.{in_vain, patience, rounds_after}

pub free : (calls : List Bool) → in_vain calls ≤ 8 → patience calls ≡ 2
free calls few = ap (λ (k : ℕ). 2 * 2 ^ k) (none (in_vain calls) few)
  where
    none : (n : ℕ) → n ≤ 8 → min (n - 8) 12 ≡ 0
    none n few = omega (arith, few)

pub most : (calls : List Bool) → 20 ≤ in_vain calls → patience calls ≡ 8192
most calls many = ap (λ (k : ℕ). 2 * 2 ^ k) (twelve (in_vain calls) many)
  where
    twelve : (n : ℕ) → 20 ≤ n → min (n - 8) 12 ≡ 12
    twelve n many = omega (arith, many)

pub doubled : (calls : List Bool) → 8 ≤ in_vain calls → in_vain calls < 20 → patience (false ∷ calls) ≡ 2 * patience calls
doubled calls some few = twice (in_vain calls) some few
  where
    one_more : (n : ℕ) → 8 ≤ n → n < 20 → min (n + 1 - 8) 12 ≡ min (n - 8) 12 + 1
    one_more n some few = omega (arith, some, few)

    twice : (n : ℕ) → 8 ≤ n → n < 20 → rounds_after (n + 1) ≡ 2 * rounds_after n
    twice n some few =
        let step : 2 * 2 ^ min (n + 1 - 8) 12 ≡ 2 * 2 ^ (min (n - 8) 12 + 1) = ap (λ (k : ℕ). 2 * 2 ^ k) (one_more n some few) in
        let more : 2 ^ (min (n - 8) 12 + 1) ≡ 2 ^ min (n - 8) 12 * 2 = pow_more 2 (min (n - 8) 12) in
        step ∙ omega (arith, more)
