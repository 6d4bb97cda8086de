use Rattle.ndb_reader.specs.Names.{names_seen}
use Rattle.ndb_reader.proofs.Chosen.{InTuple}
use Rattle.ndb_reader.proofs.choice.names_in.Given as goal

abbrev pub invariant-loop-number : goal.invariant-loop-number
invariant-loop-number l = InTuple l.tuple l.number (names_seen l.names.keys)
