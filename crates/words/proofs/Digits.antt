-- Digits in decimal.
use Rattle.std.proofs.Common.{ℕ, ◌^◌, ◌<◌, ◌≤◌, List, length, arith}
use Rattle.std.specs.Str.Parse.{digits_value, AllDigits}
use Rattle.std.proofs.lemmas.Int.Digits.{digits_value-lt}
use Rattle.std.proofs.Math.Nat.{pow-le-pow_right}

-- so few digits spell a number that can be multiplied by ten once more
pub digits_below : (ds : List ℕ) → AllDigits 10 ds → length ds ≤ 19 → digits_value 10 ds < 10000000000000000000
digits_below ds all few =
    let below = digits_value-lt 10 ds all in
    let most : 10 ^ length ds ≤ 10 ^ 19 = pow-le-pow_right (omega arith) few in
    omega arith
