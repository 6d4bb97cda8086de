use Rattle.turn_orders.proofs.Telling.{told_complete}
use Rattle.turn_orders.proofs.list.what_is_told_is_complete.Goals as goal

pub returns : goal.returns
returns c = told_complete
