-- Digits of a number in decimal.
use Rattle.std.specs.Prelude.{ℕ, ◌+◌, ◌/◌, ◌%◌, List, [], ◌∷◌}

-- the four digits of a number below 10000, with leading zeros
abbrev pub four_digits : ℕ → List ℕ
four_digits n = (48 + n / 100 / 10) ∷ (48 + n / 100 % 10) ∷ (48 + n % 100 / 10) ∷ (48 + n % 100 % 10) ∷ []
