use Rattle.std.proofs.Common.{refl}
use Rattle.net_model.proofs.ndb_law.worked_written_databases.Goals as goal

pub returns : goal.returns
returns c = record { lines = refl; not_whole = refl; read_as_none = refl }
