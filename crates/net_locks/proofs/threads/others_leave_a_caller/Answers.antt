use Rattle.net_locks.proofs.Apart.{stands_still}
use Rattle.net_locks.proofs.threads.others_leave_a_caller.Goals as goal

pub returns : goal.returns
returns c = stands_still c.callers_are_apart.ensures.later
