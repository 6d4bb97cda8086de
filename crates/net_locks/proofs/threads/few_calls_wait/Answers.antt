use Rattle.net_locks.proofs.FewCalls.{no_more}
use Rattle.net_locks.proofs.threads.few_calls_wait.Goals as goal

pub returns : goal.returns
returns c = no_more c.same_actors_are_equal.ensures
