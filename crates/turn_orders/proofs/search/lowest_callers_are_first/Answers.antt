use Rattle.turn_orders.proofs.Costs.{cost_free, lowest_first}
use Rattle.turn_orders.proofs.search.lowest_callers_are_first.Goals as goal

pub returns : goal.returns
returns c = record { lowest = lowest_first; free = cost_free }
