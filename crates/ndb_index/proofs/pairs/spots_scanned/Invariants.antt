use Rattle.std.proofs.Common.{◌+◌, ◌≤◌}
use Rattle.ndb_index.proofs.Notes.{Scans}
use Rattle.ndb_index.proofs.pairs.spots_scanned.Given as goal

abbrev pub invariant-loop-number : goal.invariant-loop-number
invariant-loop-number g l = Scans l.tuples l.number l.attr l.value l.spots.items × (l.steps ≤ l.initial.steps + l.number)
