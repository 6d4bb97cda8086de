-- How a call of the program ends, and what each status says.
use Rattle.std.specs.Prelude.{ℕ, Option, Result}
use Rattle.net_model.specs.Answers.{Answer}
use Rattle.net_model.specs.Asking as asks
use Rattle.net_model.specs.Calls.{Intake, Output}
use Rattle.net_model.specs.Ends as calls
use Rattle.outside.specs.declared.fault.TakeError.{TakeError}
use Rattle.netexplore.specs.Answers.{asking}
use Rattle.netexplore.specs.Words.{Command}

-- what became of a command and its input before anything was written
abbrev pub IsAnswered : Command → Intake → Result Answer TakeError → Type 0
IsAnswered asked intake became = calls.IsAnswered asking asked intake became

-- how a call with a command, or with words in no row, may end
abbrev pub Ends : Option Command → ℕ → Intake → Output → Type 0
Ends command status intake output = calls.Ends asking command status intake output

-- when each status comes, and what it leaves
abbrev pub Causes : Option Command → ℕ → Intake → Output → Type 0
Causes command status intake output = calls.Causes asking command status intake output

-- the most reads of a source by words
abbrev pub most_reads : Option Command → ℕ
most_reads command = asks.most_reads asking command
