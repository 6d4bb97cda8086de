use Rattle.std.proofs.Common.{◌≡◌, ◌++◌, drop}
use Rattle.ndb_reader.specs.Written.{more_pairs}
use Rattle.ndb_reader.proofs.writer.put_more.Given as goal

abbrev pub invariant-loop-number : goal.invariant-loop-number
invariant-loop-number l = l.initial.out ++ more_pairs (drop 1 l.line) ≡ l.out ++ more_pairs (drop l.number l.line)
