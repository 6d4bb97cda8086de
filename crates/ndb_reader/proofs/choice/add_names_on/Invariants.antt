use Rattle.ndb_reader.specs.Names.{names_seen}
use Rattle.ndb_reader.proofs.Chosen.{OnLine}
use Rattle.ndb_reader.proofs.choice.add_names_on.Given as goal

abbrev pub invariant-loop-number : goal.invariant-loop-number
invariant-loop-number l = OnLine (names_seen l.initial.names.keys) l.line l.number (names_seen l.names.keys)
