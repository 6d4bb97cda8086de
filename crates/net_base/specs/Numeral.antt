-- A number in decimal, without a bound on its size.
use Rattle.std.specs.Prelude.{ℕ, zero, suc, ◌+◌, List, map, codes}
use Rattle.std.specs.Int.Digits.{digits_of}

-- its digits, the first of which is 0 for 0 alone
unfoldable pub numeral : ℕ → List ℕ
numeral zero = codes "0"
numeral (suc n) = map (λ digit. 48 + digit) (digits_of 10 (suc n))
