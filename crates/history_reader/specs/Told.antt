-- What an answer tells.
use Rattle.std.specs.Prelude.{◌≡◌, ℕ, List, Option, Result, Ok, Err}
use Rattle.net_base.specs.declared.history.Entry.{Entry}
use Rattle.history_reader.specs.declared.fault.LineError.{LineError}
use Rattle.history_reader.specs.declared.fault.LineError.TheVariants as error

-- a bad line is told as it is
abbrev pub Refuses : (ℕ → ℕ → Type 0) → LineError → Type 0
Refuses IsBad error.Memory = Unit {0}
Refuses IsBad (error.Bad line cause) = IsBad line cause

-- this history and summary, or memory ran out
abbrev pub Tells : List Entry → Option (List ℕ) → Result (List Entry × Option (List ℕ)) LineError → Type 0
Tells h summary (Ok read) = (read.0 ≡ h) × (read.1 ≡ summary)
Tells h summary (Err error.Memory) = Unit {0}
Tells h summary (Err (error.Bad line cause)) = ⊥

-- this line and cause, or memory ran out
abbrev pub TellsBad : ℕ → ℕ → Result (List Entry × Option (List ℕ)) LineError → Type 0
TellsBad line cause (Ok read) = ⊥
TellsBad line cause (Err error.Memory) = Unit {0}
TellsBad line cause (Err (error.Bad l c)) = (l ≡ line) × (c ≡ cause)
