use Rattle.std.proofs.Common.{◌≡◌, ◌++◌, drop}
use Rattle.std.specs.Prelude.{flat_map}
use Rattle.std.specs.List.{enumerate_from}
use Rattle.order_search.specs.Marks.{script_lines}
use Rattle.order_search.proofs.results.results_of.Given as goal

-- the scripts so far, and those that are left
abbrev pub invariant-loop-number : goal.invariant-loop-number
invariant-loop-number l =
    l.out ++ flat_map (script_lines l.world l.walk.history) (enumerate_from l.number (drop l.number l.scripts)) ≡ flat_map (script_lines l.world l.walk.history) (enumerate_from 0 l.scripts)
