use Rattle.std.proofs.Common.{◌≡◌, ◌+◌, ◌≤◌, take}
use Rattle.std.specs.Prelude.{flat_map}
use Rattle.net_base.specs.Search.{beside}
use Rattle.ndb_index.specs.Near.{tuples_at}
use Rattle.ndb_index.proofs.found.place_values.Given as goal

abbrev pub invariant-loop-place : goal.invariant-loop-place
invariant-loop-place g l =
    (l.values ≡ flat_map (beside l.attr l.value l.other) (tuples_at l.tuples (take l.place-index l.places)))
    × (l.steps ≤ l.initial.steps + l.place-index)
