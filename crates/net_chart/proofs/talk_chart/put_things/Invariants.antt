use Rattle.std.proofs.Common.{◌≡◌, ◌++◌, drop}
use Rattle.net_chart.specs.Drawing.{drawing_of}
use Rattle.net_chart.specs.Talks.{talks_drawn, talks_drawn_from}
use Rattle.net_chart.proofs.talk_chart.put_things.Given as goal

-- what is drawn, and what is still to draw
abbrev pub invariant-loop-stamp : goal.invariant-loop-stamp
invariant-loop-stamp l =
    l.out ++ drawing_of l.page (talks_drawn_from l.page.brief l.entries l.talks l.past l.stamp (drop l.stamp l.entries))
    ≡ l.initial.out ++ drawing_of l.page (talks_drawn l.page.brief l.entries l.talks)
