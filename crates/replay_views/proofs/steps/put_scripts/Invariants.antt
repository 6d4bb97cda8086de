use Rattle.std.proofs.Common.{◌≡◌, ◌++◌, drop}
use Rattle.std.specs.List.{enumerate_from}
use Rattle.replay_views.specs.Steps.{scripts_text}
use Rattle.replay_views.proofs.steps.put_scripts.Given as goal

-- the scripts so far, and those that are left
abbrev pub invariant-loop-number : goal.invariant-loop-number
invariant-loop-number l =
    l.out ++ scripts_text l.form l.world l.entries l.left (enumerate_from l.number (drop l.number l.scripts)) ≡ l.initial.out ++ scripts_text l.form l.world l.entries l.lines (enumerate_from 0 l.scripts)
