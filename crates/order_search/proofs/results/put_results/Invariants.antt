use Rattle.std.proofs.Common.{◌≡◌, ◌++◌, ◌-◌}
use Rattle.std.specs.Prelude.{flat_map}
use Rattle.std.specs.List.{range_with_len}
use Rattle.net_base.specs.Next.{own_replies, zone_of}
use Rattle.order_search.specs.Marks.{script_lines}
use Rattle.order_search.proofs.Marking.{step_line}
use Rattle.order_search.proofs.results.put_results.Given as goal

-- the steps so far, and those that are left
abbrev pub invariant-loop-step : goal.invariant-loop-step
invariant-loop-step l =
    l.out ++ flat_map (step_line (zone_of l.world) l.script (own_replies l.walk.history l.number)) (range_with_len l.step (l.step-end - l.step))
    ≡ l.initial.out ++ script_lines l.world l.walk.history (l.number, l.script)
