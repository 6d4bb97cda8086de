use Rattle.std.proofs.Common.{◌≡◌, ◌++◌, take}
use Rattle.std.specs.Prelude.{filter}
use Rattle.net_base.specs.Search.{values_on}
use Rattle.net_base.specs.Networks.{is_filled}
use Rattle.ndb_search.proofs.filled.add_filled_on.Given as goal

abbrev pub invariant-loop-number : goal.invariant-loop-number
invariant-loop-number l = l.values ≡ l.initial.values ++ filter is_filled (values_on l.attr (take l.number l.line))
