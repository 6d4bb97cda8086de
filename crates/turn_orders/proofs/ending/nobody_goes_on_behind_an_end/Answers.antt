use Rattle.turn_orders.proofs.RunEnds.{done_ended, stopped_ended}
use Rattle.turn_orders.proofs.ending.nobody_goes_on_behind_an_end.Goals as goal

pub returns : goal.returns
returns c = record { done = done_ended; stopped = stopped_ended }
