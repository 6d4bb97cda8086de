use Rattle.std.proofs.Common.{◌≡◌, take}
use Rattle.std.specs.Prelude.{filter}
use Rattle.net_base.specs.Search.{values_in}
use Rattle.net_base.specs.Networks.{is_filled}
use Rattle.ndb_search.proofs.filled.filled_in.Given as goal

abbrev pub invariant-loop-number : goal.invariant-loop-number
invariant-loop-number l = l.values ≡ filter is_filled (values_in l.attr (take l.number l.tuple))
