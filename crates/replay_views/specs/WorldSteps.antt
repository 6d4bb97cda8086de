-- The lines of a world's text that are steps of its scripts.
use Rattle.std.specs.Prelude.{ℕ, ◌+◌, ◌==◌, Bool, true, false, not, ◌&&◌, ◌||◌, List, [], ◌∷◌, ◌++◌, length, Option, Some, None, codes, bytes_eq, min, nat_eq, if◌then◌else◌}
use Rattle.std.specs.List.{starts_with}
use Rattle.net_base.specs.Addresses.{parts_at}
use Rattle.replay_views.specs.declared.world_steps.StepLine.{StepLine}

-- a number and the next one, but for the last number
abbrev pub next_number : ℕ → ℕ
next_number n = min (n + 1) 18446744073709551615

-- a line that begins a script
abbrev pub begins_script : List ℕ → Bool
begins_script line = starts_with nat_eq line (codes "script ")

-- an empty line, or a comment
abbrev pub is_line_passed : List ℕ → Bool
is_line_passed [] = true
is_line_passed (b ∷ bs) = b == 35

-- behind the first line of a script all lines are steps, but for those that are passed over and those that begin another one
abbrev pub is_step_line : Bool → List ℕ → Bool
is_step_line under line = under && (not (is_line_passed line) && not (begins_script line))

abbrev pub own_line : Bool → ℕ → List ℕ → List StepLine
own_line under n line = if is_step_line under line then record { number = n; text = line } ∷ [] else []

-- a line behind this one is under a script
abbrev pub goes_under : Bool → List ℕ → Bool
goes_under under line = under || begins_script line

-- the lines before `ndb`, which begin with the n-th
abbrev pub step_lines_from : Bool → ℕ → List (List ℕ) → List StepLine
step_lines_from under n [] = []
step_lines_from under n (l ∷ ls) =
    if bytes_eq l (codes "ndb") then [] else own_line under n l ++ step_lines_from (goes_under under l) (next_number n) ls

-- the steps of a world's text, each with its number, from 1
abbrev pub step_lines : List ℕ → List StepLine
step_lines text = step_lines_from false 1 (parts_at 10 text)

abbrev pub lines_left : Bool → ℕ → Option (List ℕ) → List StepLine
lines_left under n None = []
lines_left under n (Some rest) = step_lines_from under n (parts_at 10 rest)

abbrev pub lines_count : Option (List ℕ) → ℕ
lines_count None = 0
lines_count (Some rest) = length (parts_at 10 rest)
