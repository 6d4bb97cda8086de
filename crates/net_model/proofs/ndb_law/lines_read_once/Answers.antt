use Rattle.formats.proofs.Shared.{line_reads_once}
use Rattle.net_model.proofs.ndb_law.lines_read_once.Goals as goal

pub returns : goal.returns
returns c = line_reads_once
