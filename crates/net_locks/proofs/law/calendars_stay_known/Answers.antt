use Rattle.net_locks.proofs.Knowledge.{known_on}
use Rattle.net_locks.proofs.law.calendars_stay_known.Goals as goal

pub returns : goal.returns
returns c w = known_on w
