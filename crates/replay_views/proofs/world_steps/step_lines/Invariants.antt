use Rattle.std.proofs.Common.{◌≡◌, ◌++◌}
use Rattle.std.specs.Prelude.{option_copied}
use Rattle.replay_views.specs.WorldSteps.{lines_count, lines_left, step_lines}
use Rattle.replay_views.proofs.world_steps.step_lines.Given as goal

-- the steps so far, and those of the lines that are left
abbrev pub invariant-loop-rest : goal.invariant-loop-rest
invariant-loop-rest l = l.lines ++ lines_left l.under l.number (option_copied l.rest) ≡ step_lines l.text

-- so many lines are left
abbrev pub decreases-loop-rest : goal.decreases-loop-rest
decreases-loop-rest l = lines_count (option_copied l.rest)
