use Rattle.std.proofs.Common.{◌≡◌, take}
use Rattle.net_base.specs.Store.{with_pairs}
use Rattle.ndb_reader.proofs.copy.add_line.Given as goal

abbrev pub invariant-loop-number : goal.invariant-loop-number
invariant-loop-number l = l.out ≡ with_pairs (take l.number l.line) l.initial.out
