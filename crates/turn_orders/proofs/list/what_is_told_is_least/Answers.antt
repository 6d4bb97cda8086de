use Rattle.turn_orders.proofs.Telling.{told_least}
use Rattle.turn_orders.proofs.list.what_is_told_is_least.Goals as goal

pub returns : goal.returns
returns c = told_least
