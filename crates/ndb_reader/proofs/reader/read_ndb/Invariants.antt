use Rattle.std.proofs.Common.{◌≡◌, length}
use Rattle.net_base.specs.NdbText.{lines_of}
use Rattle.ndb_reader.specs.Filed.{filed, AreFiled}
use Rattle.ndb_reader.proofs.Turns.{Reads}
use Rattle.ndb_reader.proofs.reader.read_ndb.Given as goal

abbrev pub invariant-loop-line : goal.invariant-loop-line
invariant-loop-line l = record {
  number : l.number ≡ length l.yielded;
  sound : AreFiled l.files;
  reads : Reads (lines_of l.bytes) (length l.yielded) (filed l.files);
}
