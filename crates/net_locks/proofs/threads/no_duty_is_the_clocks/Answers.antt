use Rattle.net_locks.proofs.Away.{owed_away}
use Rattle.net_locks.proofs.threads.no_duty_is_the_clocks.Goals as goal

pub returns : goal.returns
returns c = owed_away
