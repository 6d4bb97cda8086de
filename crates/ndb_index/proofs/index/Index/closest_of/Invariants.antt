use Rattle.std.proofs.Common.{◌≡◌, ◌+◌, ◌≤◌, ◌++◌, None, take}
use Rattle.ndb_search.specs.Closest.{first_filled}
use Rattle.ndb_index.specs.Near.{spot_tuples, numbers_of}
use Rattle.ndb_index.proofs.index.Index.closest_of.Given as goal

abbrev pub invariant-loop-spot : goal.invariant-loop-spot
invariant-loop-spot g l =
    (first_filled l.attr (spot_tuples l.self (take l.spot-index l.mine)) ≡ None)
    × (l.ips.items ≡ l.initial.ips.items ++ numbers_of (spot_tuples l.self (take l.spot-index l.mine)))
    × (l.steps ≤ l.initial.steps + l.spot-index)
