use Rattle.std.proofs.Common.{◌≡◌}
use Rattle.ndb_reader.specs.Filed.{files_of}
use Rattle.ndb_reader.proofs.Chained.{gathered}
use Rattle.ndb_reader.proofs.choice.copies_of.Given as goal

abbrev pub invariant-loop-name : goal.invariant-loop-name
invariant-loop-name l = l.out ≡ gathered (files_of l.bundle) l.name-items l.name-index
