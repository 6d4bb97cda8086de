use Rattle.std.proofs.Common.{◌≤◌, length}
use Rattle.ndb_reader.specs.Filed.{files_of}
use Rattle.ndb_reader.specs.Names.{names_seen, name_bucket}
use Rattle.ndb_reader.proofs.Chained.{Walk}
use Rattle.ndb_reader.proofs.InRow.{row}
use Rattle.ndb_reader.proofs.choice.row_of.Given as goal

abbrev pub invariant-loop-left : goal.invariant-loop-left
invariant-loop-left l =
    Walk (names_seen l.names.keys) (files_of l.bundle) (name_bucket (names_seen l.names.keys) l.name) l.left (row (files_of l.bundle) l.first) (row (files_of l.bundle) l.end)
    × (l.first ≤ l.end) × (l.end ≤ length (files_of l.bundle))

abbrev pub decreases-loop-left : goal.decreases-loop-left
decreases-loop-left l = l.left
