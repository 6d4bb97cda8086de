use Rattle.turn_orders.proofs.RunEnds.{ended_ends}
use Rattle.turn_orders.proofs.ending.ended_histories_end.Goals as goal

pub returns : goal.returns
returns c = ended_ends c.some_duty_is_ready.ensures c.somebody_is_limited.ensures.caller c.somebody_is_limited.ensures.clock
