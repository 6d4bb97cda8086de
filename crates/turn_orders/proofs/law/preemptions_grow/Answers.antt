use Rattle.std.proofs.Common.{None}
use Rattle.turn_orders.proofs.Costs.{left_is}
use Rattle.turn_orders.proofs.Growing.{last_push, preempts_more, preempts_push}
use Rattle.turn_orders.proofs.law.preemptions_grow.Goals as goal

pub returns : goal.returns
returns c = record { entry = preempts_push; last = last_push None; beginning = preempts_more; left = left_is }
