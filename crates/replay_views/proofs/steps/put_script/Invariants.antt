use Rattle.std.proofs.Common.{◌≡◌, ◌++◌, ◌-◌}
use Rattle.std.specs.Prelude.{flat_map}
use Rattle.std.specs.List.{range_with_len}
use Rattle.replay_views.specs.Steps.{script_text, step_text}
use Rattle.replay_views.proofs.steps.put_script.Given as goal

-- the steps so far, and those that are left
abbrev pub invariant-loop-step : goal.invariant-loop-step
invariant-loop-step l =
    l.out ++ flat_map (step_text l.form l.world l.player.entries.now l.lines (l.player.number, l.player.script.now)) (range_with_len l.step (l.step-end - l.step))
    ≡ l.initial.out ++ script_text l.form l.world l.player.entries.now l.lines (l.player.number, l.player.script.now)
