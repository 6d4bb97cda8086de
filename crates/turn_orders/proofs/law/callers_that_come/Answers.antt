use Rattle.turn_orders.proofs.Coming.{clock_alone, comes_only, comes_there}
use Rattle.turn_orders.proofs.law.callers_that_come.Goals as goal

pub returns : goal.returns
returns c = record { only = comes_only; these = comes_there; clock_alone = clock_alone }
