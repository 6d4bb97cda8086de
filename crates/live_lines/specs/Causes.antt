-- The causes that depend on the place of a line, and the numbers of all causes.
use Rattle.std.specs.Prelude.{ℕ, ◌+◌, Option, Some, None, nat_lt, if◌then◌else◌}
use Rattle.live_lines.specs.declared.action.Action.{Action}
use Rattle.live_lines.specs.declared.action.Action.TheVariants as action
use Rattle.live_lines.specs.declared.cause.LiveCause.{LiveCause}
use Rattle.live_lines.specs.declared.cause.LiveCause.TheVariants as cause
use Rattle.live_lines.specs.declared.line.LiveLine.{LiveLine}
use Rattle.live_lines.specs.declared.place.PlaceState.{PlaceState}

abbrev pub cause_number_of : LiveCause → ℕ
cause_number_of cause.TooLong = 9
cause_number_of cause.UnknownWord = 12
cause_number_of cause.WrongArgument = 13
cause_number_of cause.NoPlace = 15
cause_number_of cause.OverLimit = 17
cause_number_of cause.HasEnded = 18
cause_number_of cause.NoStep = 52

abbrev pub IsStep : Action → Type 0
IsStep (action.Step by s) = Unit {0}
IsStep action.Cancel = ⊥
IsStep action.End = ⊥

-- a place that has ended gets no step and no second `end`
abbrev pub end_cause : PlaceState → Option LiveCause
end_cause p = if p.ended then Some cause.HasEnded else None

-- with its newline, the line would exceed 16 MiB in total
abbrev pub step_cause : PlaceState → ℕ → ℕ → Option LiveCause
step_cause p accepted length = if nat_lt 16777216 (accepted + length + 1) then Some cause.OverLimit else end_cause p

-- only a current step without an entry can be withdrawn
abbrev pub cancel_cause : PlaceState → Option LiveCause
cancel_cause p = if p.waits then None else Some cause.NoStep

abbrev pub action_cause : Action → PlaceState → ℕ → ℕ → Option LiveCause
action_cause (action.Step by s) p accepted length = step_cause p accepted length
action_cause action.Cancel p accepted length = cancel_cause p
action_cause action.End p accepted length = end_cause p

-- the smallest cause of a line of this length, if the accepted step lines have this number of bytes
abbrev pub cause_at : LiveLine → Option PlaceState → ℕ → ℕ → Option LiveCause
cause_at l None accepted length = Some cause.NoPlace
cause_at l (Some p) accepted length = action_cause l.action p accepted length
