use Rattle.std.proofs.Common.{◌≡◌, ◌++◌, drop}
use Rattle.net_chart.specs.Places.{places_from, chart_places}
use Rattle.net_chart.proofs.place.places_of.Given as goal

-- the rows so far, and those that are left
abbrev pub invariant-loop-entry : goal.invariant-loop-entry
invariant-loop-entry l = l.places ++ places_from l.brief l.place (drop l.entry-index l.entries) ≡ chart_places l.brief l.entries
