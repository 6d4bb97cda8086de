-- The newline at the end of a text.
use Rattle.std.proofs.Common.{◌≡◌, ◌≢◌, ℕ, zero, suc, List, [], ◌∷◌, length, get_or, take, refl, ap, arith}
use Rattle.std.proofs.lemmas.Bool.{ne_eqb}
use Rattle.net_base.specs.ControlWords.{without_newline}

-- the last of n + 1 bytes is a newline
pub newline_cut : (text : List ℕ) (n : ℕ) → length text ≡ suc n → get_or text n 0 ≡ 10 → take n text ≡ without_newline text
newline_cut [] n e is = absurd (omega (arith, e))
newline_cut (b ∷ []) zero e is = rw is refl
newline_cut (b ∷ []) (suc n) e is = absurd (omega (arith, e))
newline_cut (b ∷ c ∷ rest) zero e is = absurd (omega (arith, e))
newline_cut (b ∷ c ∷ rest) (suc n) e is = ap (λ (xs : List ℕ). b ∷ xs) (newline_cut (c ∷ rest) n (omega (arith, e)) is)

-- it is none
pub no_newline : (text : List ℕ) (n : ℕ) → length text ≡ suc n → get_or text n 0 ≢ 10 → text ≡ without_newline text
no_newline [] n e other = absurd (omega (arith, e))
no_newline (b ∷ []) zero e other = rw (ne_eqb b 10 other) refl
no_newline (b ∷ []) (suc n) e other = absurd (omega (arith, e))
no_newline (b ∷ c ∷ rest) zero e other = absurd (omega (arith, e))
no_newline (b ∷ c ∷ rest) (suc n) e other = ap (λ (xs : List ℕ). b ∷ xs) (no_newline (c ∷ rest) n (omega (arith, e)) other)
