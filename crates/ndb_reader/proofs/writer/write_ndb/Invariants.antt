use Rattle.std.proofs.Common.{◌≡◌, ◌++◌, drop}
use Rattle.ndb_reader.specs.Written.{db_text}
use Rattle.ndb_reader.proofs.writer.write_ndb.Given as goal

abbrev pub invariant-loop-place : goal.invariant-loop-place
invariant-loop-place l = db_text l.db ≡ l.out ++ db_text (drop l.place l.db)
