use Rattle.std.proofs.Common.{◌≡◌, ◌++◌, drop}
use Rattle.ndb_reader.specs.Written.{more_lines}
use Rattle.ndb_reader.proofs.writer.put_lines.Given as goal

abbrev pub invariant-loop-number : goal.invariant-loop-number
invariant-loop-number l = l.initial.out ++ more_lines (drop 1 l.tuple) ≡ l.out ++ more_lines (drop l.number l.tuple)
