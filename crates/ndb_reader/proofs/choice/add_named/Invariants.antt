use Rattle.ndb_reader.specs.Filed.{files_of}
use Rattle.ndb_reader.specs.Names.{names_seen, name_bucket}
use Rattle.ndb_reader.proofs.Chained.{Walk}
use Rattle.ndb_reader.proofs.choice.add_named.Given as goal

abbrev pub invariant-loop-left : goal.invariant-loop-left
invariant-loop-left l = Walk (names_seen l.names.keys) (files_of l.bundle) (name_bucket (names_seen l.names.keys) l.name) l.left l.initial.out l.out

abbrev pub decreases-loop-left : goal.decreases-loop-left
decreases-loop-left l = l.left
