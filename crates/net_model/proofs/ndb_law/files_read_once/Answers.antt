use Rattle.formats.proofs.Shared.{file_reads_once}
use Rattle.net_model.proofs.ndb_law.files_read_once.Goals as goal

pub returns : goal.returns
returns c = file_reads_once
