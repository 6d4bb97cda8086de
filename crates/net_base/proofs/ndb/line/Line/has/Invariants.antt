use Rattle.std.proofs.Common.{◌≡◌, false, take}
use Rattle.std.specs.List.{list_any}
use Rattle.net_base.specs.Search as spec
use Rattle.net_base.proofs.ndb.line.Line.has.Given as goal

abbrev pub invariant-loop-number : goal.invariant-loop-number
invariant-loop-number l = list_any (spec.is_pair l.attr l.value) (take l.number l.self) ≡ false
