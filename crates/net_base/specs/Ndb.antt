-- Pairs of the network database.
use Rattle.std.specs.Prelude.{ℕ, List}

-- an attribute with its value, perhaps empty
pub record NdbPair : Type 0 where
  pub attr : List ℕ
  pub value : List ℕ
