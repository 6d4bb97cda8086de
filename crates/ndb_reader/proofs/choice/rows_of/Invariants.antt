use Rattle.std.proofs.Common.{◌≤◌, length}
use Rattle.ndb_reader.specs.Filed.{files_of}
use Rattle.ndb_reader.proofs.InRow.{Rows}
use Rattle.ndb_reader.proofs.choice.rows_of.Given as goal

abbrev pub invariant-loop-name : goal.invariant-loop-name
invariant-loop-name l = Rows (files_of l.bundle) l.name-items l.name-index l.first l.end × (l.first ≤ l.end) × (l.end ≤ length (files_of l.bundle))
