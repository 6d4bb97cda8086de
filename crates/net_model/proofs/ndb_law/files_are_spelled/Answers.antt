use Rattle.formats.proofs.Shared.{spelled_is_read, file_is_spelled}
use Rattle.net_model.proofs.ndb_law.files_are_spelled.Goals as goal

pub returns : goal.returns
returns c = record { reads = spelled_is_read; spelled = file_is_spelled }
