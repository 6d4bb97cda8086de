use Rattle.std.proofs.Common.{refl}
use Rattle.net_model.proofs.ndb_law.worked_readings.Goals as goal

pub returns : goal.returns
returns c = record { quoted = refl; chosen = refl; no_local = refl; no_names = refl; no_such_file = refl }
