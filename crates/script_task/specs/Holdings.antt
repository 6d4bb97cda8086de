-- What a contract sees of what a script holds.
use Rattle.std.specs.Prelude.{ℕ, List, Option}
use Rattle.net_base.specs.Steps.{Names}

-- what a step finds, and the name that there is room for
pub record Holdings : Type 0 where
  pub names : Names
  pub reserved : Option (List ℕ)

abbrev pub holdings : Names → Option (List ℕ) → Holdings
holdings names reserved = record { names = names; reserved = reserved }
