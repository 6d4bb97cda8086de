use Rattle.turn_orders.proofs.Costs.{cost_early, cost_first, cost_same, cost_waits, cost_within}
use Rattle.turn_orders.proofs.law.costs_are.Goals as goal

pub returns : goal.returns
returns c = record { within = cost_within; first = cost_first; same = cost_same; waits = cost_waits; early = cost_early }
