use Rattle.std.proofs.Common.{◌≡◌, ◌++◌, take}
use Rattle.net_base.specs.Search.{values_on}
use Rattle.ndb_search.proofs.values.add_on.Given as goal

abbrev pub invariant-loop-number : goal.invariant-loop-number
invariant-loop-number l = l.values ≡ l.initial.values ++ values_on l.attr (take l.number l.line)
