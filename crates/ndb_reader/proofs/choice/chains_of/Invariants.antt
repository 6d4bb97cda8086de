use Rattle.ndb_reader.specs.Filed.{files_of}
use Rattle.ndb_reader.specs.Names.{names_seen}
use Rattle.ndb_reader.proofs.Chained.{Chaining}
use Rattle.ndb_reader.proofs.choice.chains_of.Given as goal

abbrev pub invariant-loop-back : goal.invariant-loop-back
invariant-loop-back l = Chaining (names_seen l.names.keys) (files_of l.bundle) l.back l.chains
