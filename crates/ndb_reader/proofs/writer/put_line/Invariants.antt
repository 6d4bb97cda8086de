use Rattle.ndb_reader.proofs.Lined.{Put}
use Rattle.ndb_reader.proofs.writer.put_line.Given as goal

abbrev pub invariant-loop-number : goal.invariant-loop-number
invariant-loop-number l = Put l.initial.out l.line l.number l.out
