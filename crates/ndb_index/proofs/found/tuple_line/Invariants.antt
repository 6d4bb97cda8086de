use Rattle.std.proofs.Common.{◌≡◌, take}
use Rattle.ndb_reader.specs.Written.{pairs_text}
use Rattle.ndb_index.proofs.Lined.{flat}
use Rattle.ndb_index.proofs.found.tuple_line.Given as goal

abbrev pub invariant-loop-number : goal.invariant-loop-number
invariant-loop-number l = l.out ≡ pairs_text (flat (take l.number l.tuple))
