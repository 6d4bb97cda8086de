-- One line less.
use Rattle.std.proofs.Common.{◌≡◌, ℕ, zero, suc, ◌+◌, ◌∙◌, ap, List, [], ◌∷◌, drop, refl, arith}
use Rattle.dial_lib.specs.Lines.{other_lines}

drop_suc : (n : ℕ) (xs : List (List ℕ)) → drop (suc n) xs ≡ other_lines (drop n xs)
drop_suc zero [] = refl
drop_suc zero (x ∷ xs) = refl
drop_suc (suc n) [] = refl
drop_suc (suc n) (x ∷ xs) = drop_suc n xs

one_more : (n : ℕ) → n + 1 ≡ suc n
one_more n = omega arith

pub drop_more : (n : ℕ) (xs : List (List ℕ)) → drop (n + 1) xs ≡ other_lines (drop n xs)
drop_more n xs = ap (λ k. drop k xs) (one_more n) ∙ drop_suc n xs
