use Rattle.std.proofs.Common.{◌≡◌, ◌+◌, ◌≤◌, None, take}
use Rattle.ndb_search.specs.Closest.{first_filled}
use Rattle.ndb_index.specs.Near.{tuples_at}
use Rattle.ndb_index.proofs.index.Index.closest_among.Given as goal

abbrev pub invariant-loop-place : goal.invariant-loop-place
invariant-loop-place g l =
    (first_filled l.attr (tuples_at l.self (take l.place-index l.places)) ≡ None) × (l.steps ≤ l.initial.steps + l.place-index)
