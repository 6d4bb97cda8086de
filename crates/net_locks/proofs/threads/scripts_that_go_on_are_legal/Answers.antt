use Rattle.net_locks.proofs.Whole.{made_legal}
use Rattle.net_locks.proofs.threads.scripts_that_go_on_are_legal.Goals as goal

pub returns : goal.returns
returns c = made_legal
