-- The least of moments.
use Rattle.std.proofs.Common.{◌≡◌, ℕ, ◌≤◌, inl, inr, List, [], ◌∷◌, refl, ap, ◌∙◌, min, arith}
use Rattle.net_base.specs.Calm.{least}
use Rattle.net_base.specs.Stamped.{In}

pub min_swap : (a b c : ℕ) → min a (min b c) ≡ min b (min a c)
min_swap a b c = omega arith

pub least_min : (last m : ℕ) (ms : List ℕ) → least (min m last) ms ≡ min m (least last ms)
least_min last m [] = refl
least_min last m (x ∷ ms) = ap (min x) (least_min last m ms) ∙ min_swap x m (least last ms)

pub within_last : (last : ℕ) (ms : List ℕ) → least last ms ≤ last
within_last last [] = omega arith
within_last last (m ∷ ms) = omega (arith, within_last last ms)

pub within_each : (last : ℕ) (ms : List ℕ) (m : ℕ) → In m ms → least last ms ≤ m
within_each last [] m there = absurd there
within_each last (n ∷ ms) m (inl is) = omega (arith, is)
within_each last (n ∷ ms) m (inr there) = omega (arith, within_each last ms m there)
