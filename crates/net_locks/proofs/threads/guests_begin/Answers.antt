use Rattle.net_locks.proofs.Guests.{begins, no_nexts, no_moves}
use Rattle.net_locks.proofs.threads.guests_begin.Goals as goal

pub returns : goal.returns
returns c = record { guest = begins; nexts = no_nexts; timely = no_moves }
