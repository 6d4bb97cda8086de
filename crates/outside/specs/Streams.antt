-- What reading to an end takes, what a failed write leaves, and how a count of faults rises.
use Rattle.std.specs.Prelude.{◌≡◌, ℕ, ◌+◌, ◌<◌, ◌≤◌, ◌⊎◌, ◌↔◌, Option, Result, List, length, take, IfOk, OnOk, IsErrOf}
use Rattle.std.specs.Io.KnownBytes.{Appends, Consumes, IsAtEnd}
use Rattle.outside.specs.declared.fault.TakeError.{TakeError}
use Rattle.outside.specs.declared.fault.TakeError.TheVariants as error

-- a count of faults rose by one, or stands at the last value that 64 bits have
abbrev pub Rose : ℕ → ℕ → Type 0
Rose old new = (new ≡ old + 1) ⊎ ((old ≡ 18446744073709551615) × (new ≡ old))

-- what was held, where it is told, grew by a part of these bytes, from the front and not all
abbrev pub AppendsPart : Option (List ℕ) → Option (List ℕ) → List ℕ → Type 0
AppendsPart old new bytes = (n : ℕ) × (n < length bytes) × Appends old new (take n bytes)

-- reading to the end consumed some bytes; they are the answer, or one more than the limit
pub record ConsumedToEnd (old new : Option (List ℕ)) (limit : ℕ) (answer : Result (List ℕ) TakeError) : Type 0 where
  pub bytes : List ℕ
  pub consumed : Consumes old new bytes
  pub within : length bytes ≤ limit + 1
  pub too_large : IsErrOf answer error.TooLarge ↔ (length bytes ≡ limit + 1)
  pub all : IfOk answer (λ taken. taken ≡ bytes)
  pub end : OnOk answer (IsAtEnd new)
