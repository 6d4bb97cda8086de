use Rattle.std.proofs.Common.{◌≡◌, ◌+◌, ◌≤◌, map, take}
use Rattle.ndb_index.specs.Near.{tuples_at}
use Rattle.ndb_index.specs.Told.{tuple_as_line}
use Rattle.ndb_index.proofs.found.place_lines.Given as goal

abbrev pub invariant-loop-place : goal.invariant-loop-place
invariant-loop-place g l =
    (l.lines ≡ map tuple_as_line (tuples_at l.tuples (take l.place-index l.places)))
    × (l.steps ≤ l.initial.steps + l.place-index)
