use Rattle.turn_orders.proofs.Costs.{is_short}
use Rattle.turn_orders.proofs.law.histories_are_short.Goals as goal

pub returns : goal.returns
returns c = is_short
