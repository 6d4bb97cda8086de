use Rattle.history_laws.proofs.Limits.{known, never_least}
use Rattle.history_laws.proofs.law.what_is_ready_is_known.Goals as goal

pub returns : goal.returns
returns c = record { known = known; never_least = never_least }
