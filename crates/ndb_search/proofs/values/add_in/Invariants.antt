use Rattle.std.proofs.Common.{◌≡◌, ◌++◌, take}
use Rattle.net_base.specs.Search.{values_in}
use Rattle.ndb_search.proofs.values.add_in.Given as goal

abbrev pub invariant-loop-number : goal.invariant-loop-number
invariant-loop-number l = l.values ≡ l.initial.values ++ values_in l.attr (take l.number l.tuple)
