-- A number is put in where a search from the front finds its place.
use Rattle.std.proofs.Common.{◌≡◌, ℕ, ◌+◌, List, ◌++◌, take, drop}
use Rattle.net_base.specs.Exports.{put_in}

-- so many are passed over
abbrev pub Passes : ℕ → List ℕ → ℕ → Type 0
Passes fid xs i = put_in fid xs ≡ take i xs ++ put_in fid (drop i xs)
