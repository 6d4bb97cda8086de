use Rattle.std.proofs.Common.{◌≡◌, false, take}
use Rattle.std.specs.List.{list_any}
use Rattle.net_base.specs.Search as spec
use Rattle.net_base.specs.Store.{all_pairs}
use Rattle.net_base.proofs.ndb.db.Db.names.Given as goal

abbrev pub invariant-loop-number : goal.invariant-loop-number
invariant-loop-number l = list_any (spec.has_attr l.attr) (take l.number (all_pairs l.self)) ≡ false
