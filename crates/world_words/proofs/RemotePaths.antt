-- A path by its first two parts, and the names behind them.
use Rattle.std.proofs.Common.{◌≡◌, ℕ, ◌+◌, ◌<◌, Bool, false, ◌&&◌, List, length, refl, arith}
use Rattle.std.specs.Prelude.{nat_le}
use Rattle.std.specs.List.{list_all}
use Rattle.std.proofs.lemmas.Bool.Decides.{nat_tests}
use Rattle.net_base.specs.Remotes.{is_remote_name}

-- so many names and these are few, and these have the length of names
abbrev pub are_few : ℕ → List (List ℕ) → Bool
are_few n names = nat_le (n + length names) 16 && list_all is_remote_name names

-- ---- names

pub too_many : (names : List (List ℕ)) → 0 < length names → are_few 16 names ≡ false
too_many names some =
    let many : nat_le (16 + length names) 16 ≡ false = grind (arith, nat_tests, some) in
    rw many refl

-- at first none are counted
pub none_counted : (names : List (List ℕ)) → are_few 0 names ≡ (nat_le (length names) 16 && list_all is_remote_name names)
none_counted names =
    let same : 0 + length names ≡ length names = omega arith in
    rw same refl

-- ---- paths
