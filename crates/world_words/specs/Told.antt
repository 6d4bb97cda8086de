-- What the reader of a line tells.
use Rattle.std.specs.Prelude.{◌≡◌, Option, Some, None, Result, Ok, Err, ⊤}
use Rattle.world_text.specs.declared.line.LineCause.{LineCause}
use Rattle.world_text.specs.declared.line.LineCause.TheVariants as cause
use Rattle.world_text.specs.declared.line.WorldLine.{WorldLine}
use Rattle.world_words.specs.declared.fault.LineFault.{LineFault}
use Rattle.world_words.specs.declared.fault.LineFault.TheVariants as fault

-- an answer is what is read of a line: the line, or its cause; nothing is told where memory ran out
abbrev pub Tells : Result WorldLine LineFault → Result WorldLine LineCause → Type 0
Tells (Ok line) read = read ≡ Ok line
Tells (Err fault.Memory) read = ⊤
Tells (Err (fault.Cause c)) read = read ≡ Err c

-- the fault is that nothing is read; nothing is told where memory ran out
abbrev pub IsWrong : {A : Type 0} → LineFault → Option A → Type 0
IsWrong fault.Memory read = ⊤
IsWrong (fault.Cause c) read = (read ≡ None) × (c ≡ cause.WrongArgument)

-- the fault is that no row has the word, or that nothing is read
abbrev pub IsRefused : {A : Type 0} → LineFault → Option (Option A) → Type 0
IsRefused fault.Memory read = ⊤
IsRefused (fault.Cause c) None = c ≡ cause.UnknownWord
IsRefused (fault.Cause c) (Some read) = (read ≡ None) × (c ≡ cause.WrongArgument)
