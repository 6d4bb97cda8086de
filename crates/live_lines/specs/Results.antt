-- Results of the reader, with no claim if memory ran out.
use Rattle.std.specs.Prelude.{◌≡◌, ⊤, Option, Result, Ok, Err}
use Rattle.net_base.specs.declared.world.Step.{Step}
use Rattle.live_lines.specs.declared.action.Action.{Action}
use Rattle.live_lines.specs.declared.cause.LiveCause.{LiveCause}
use Rattle.live_lines.specs.declared.cause.LiveFault.{LiveFault}
use Rattle.live_lines.specs.declared.cause.LiveFault.TheVariants as fault
use Rattle.live_lines.specs.declared.line.LiveLine.{LiveLine}

-- the answer is the defined one: the value, or the smallest cause
abbrev pub TellsAs : {A : Type 0} → Result A LiveFault → Result A LiveCause → Type 0
TellsAs (Ok x) read = read ≡ Ok x
TellsAs (Err fault.Memory) read = ⊤
TellsAs (Err (fault.Cause c)) read = read ≡ Err c

abbrev pub TellsStep : Result Step LiveFault → Result Step LiveCause → Type 0
TellsStep result read = TellsAs result read

abbrev pub TellsAction : Result Action LiveFault → Result Action LiveCause → Type 0
TellsAction result read = TellsAs result read

abbrev pub TellsLine : Result LiveLine LiveFault → Result LiveLine LiveCause → Type 0
TellsLine result read = TellsAs result read

abbrev pub Tells : Result (Option LiveLine) LiveFault → Result (Option LiveLine) LiveCause → Type 0
Tells result read = TellsAs result read
