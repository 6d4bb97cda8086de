use Rattle.std.proofs.Common.{◌≡◌, ◌++◌, drop}
use Rattle.net_chart.specs.Drawing.{drawing_of}
use Rattle.net_chart.specs.Things.{things_from, things_of}
use Rattle.net_chart.proofs.chart.put_things.Given as goal

-- what is drawn, and what is still to draw
abbrev pub invariant-loop-entry : goal.invariant-loop-entry
invariant-loop-entry l =
    l.out ++ drawing_of l.page (things_from l.page.brief l.entries l.past (drop l.entry-index l.entries)) ≡ l.initial.out ++ drawing_of l.page (things_of l.page.brief l.entries)
