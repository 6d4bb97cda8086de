use Rattle.net_locks.proofs.Nets.{noted_push, past_is, moment_is}
use Rattle.net_locks.proofs.threads.nets_of_works_grow.Goals as goal

pub returns : goal.returns
returns c = record { next = noted_push; past = past_is; moment = moment_is }
