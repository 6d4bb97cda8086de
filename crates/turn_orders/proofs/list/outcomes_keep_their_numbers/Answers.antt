use Rattle.turn_orders.proofs.Numbering.{histories_more, onto-append, told_more, told_once}
use Rattle.turn_orders.proofs.list.outcomes_keep_their_numbers.Goals as goal

pub returns : goal.returns
returns c = record { once = told_once; onwards = onto-append; longer = told_more; greater = histories_more }
