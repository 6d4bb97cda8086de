use Rattle.turn_orders.proofs.Ordering.{in_order, not_before}
use Rattle.turn_orders.proofs.list.histories_are_in_order.Goals as goal

pub returns : goal.returns
returns c = record { order = in_order; once = not_before }
