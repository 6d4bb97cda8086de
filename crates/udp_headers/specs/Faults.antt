-- How far bytes look like headers: each step is what the fault after it presumes.
use Rattle.std.specs.Prelude.{◌≤◌, ℕ, List, length}

-- there are bytes enough for headers
abbrev pub AreWholeHeaders : List ℕ → Type 0
AreWholeHeaders bytes = 52 ≤ length bytes
