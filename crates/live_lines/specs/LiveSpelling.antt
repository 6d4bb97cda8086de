-- The text of a line for a place, and the lines that have one.
use Rattle.std.specs.Prelude.{ℕ, Bool, true, ◌&&◌, List, ◌∷◌, ◌++◌, codes, decimal, Some, None}
use Rattle.live_lines.specs.declared.action.Action.{Action}
use Rattle.live_lines.specs.declared.action.Action.TheVariants as action
use Rattle.live_lines.specs.declared.line.LiveLine.{LiveLine}
use Rattle.net_base.specs.StepWords.{is_step, is_within}
use Rattle.world_text.specs.WorldSpelling.{line_of_step}

-- the words after the number of the place; a step as a world file has it
abbrev pub action_spelling : Action → List ℕ
action_spelling (action.Step None s) = line_of_step s
action_spelling (action.Step (Some m) s) = codes "by" ++ 32 ∷ (decimal m ++ 32 ∷ line_of_step s)
action_spelling action.Cancel = codes "cancel"
action_spelling action.End = codes "end"

-- `C STEP`, `C by M STEP`, `C cancel` or `C end`
abbrev pub line_spelled : LiveLine → List ℕ
line_spelled l = decimal l.place ++ 32 ∷ action_spelling l.action

-- the deadline is from 1 to 1,000,000,000, and the words of the step are of its row
abbrev pub is_fit_action : Action → Bool
is_fit_action (action.Step None s) = is_step s
is_fit_action (action.Step (Some m) s) = is_within 1 1000000000 m && is_step s
is_fit_action action.Cancel = true
is_fit_action action.End = true

-- the place is from 0 to 31
abbrev pub is_fit_line : LiveLine → Bool
is_fit_line l = is_within 0 31 l.place && is_fit_action l.action
