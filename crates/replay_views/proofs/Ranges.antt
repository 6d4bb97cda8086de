-- Texts of numbers in a row.
use Rattle.std.proofs.Common.{◌≡◌, ℕ, suc, ◌+◌, ◌-◌, ◌<◌, List, ◌++◌, ap, subst, ◌∙◌, append_assoc, arith}
use Rattle.std.specs.Prelude.{flat_map}
use Rattle.std.specs.List.{range_with_len}

-- a number more
pub range_more : (f : ℕ → List ℕ) (n end : ℕ) (out new all : List ℕ) → n < end → new ≡ out ++ f n
    → out ++ flat_map f (range_with_len n (end - n)) ≡ all → new ++ flat_map f (range_with_len (n + 1) (end - (n + 1))) ≡ all
range_more f n end out new all lt is whole =
    let left : end - n ≡ suc (end - (n + 1)) = omega (arith, lt) in
    let first : out ++ (f n ++ flat_map f (range_with_len (n + 1) (end - (n + 1)))) ≡ all =
    subst (λ (k : ℕ). out ++ flat_map f (range_with_len n k) ≡ all) left whole in
    ap (λ (xs : List ℕ). xs ++ flat_map f (range_with_len (n + 1) (end - (n + 1)))) is
    ∙ append_assoc out (f n) (flat_map f (range_with_len (n + 1) (end - (n + 1))))
    ∙ first
