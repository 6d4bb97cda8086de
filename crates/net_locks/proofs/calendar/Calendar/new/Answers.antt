use Rattle.std.proofs.Common.{refl}
use Rattle.net_locks.proofs.Knowledge.{known_first}
use Rattle.net_locks.proofs.calendar.Calendar.new.Goals as goal

pub returns : goal.returns
returns c w log = known_first w log (record { dues = c.new.result; at = 0 }) refl c.new.ensures
