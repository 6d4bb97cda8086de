use Rattle.std.proofs.Common.{◌≡◌, take}
use Rattle.ndb_reader.proofs.Copied.{lines_added}
use Rattle.ndb_reader.proofs.copy.add_tuple.Given as goal

abbrev pub invariant-loop-number : goal.invariant-loop-number
invariant-loop-number l = l.out ≡ lines_added (take l.number l.tuple) l.initial.out
