-- Ports as they are kept: those that were used, and how many more have room.
use Rattle.std.specs.Prelude.{◌≡◌, ℕ, ◌≤◌, ◌<◌, true, List, Option, nat_eq}
use Rattle.std.specs.List.{list_any}
use Rattle.net_base.specs.Directory.{drawn_port}

pub record UsedPorts : Type 0 where
  pub used : List ℕ
  pub room : ℕ

-- the least port from 5000 that isn't used, if there is one
unfoldable pub drawn : List ℕ → Option ℕ
drawn used = drawn_port 60536 5000 used

-- all ports from the first to before the next are used
unfoldable pub AreUsed : ℕ → ℕ → List ℕ → Type 0
AreUsed first next used = (port : ℕ) → first ≤ port → port < next → list_any (nat_eq port) used ≡ true
