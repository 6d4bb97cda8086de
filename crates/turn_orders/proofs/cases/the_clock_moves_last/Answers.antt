use Rattle.std.proofs.Common.{refl}
use Rattle.turn_orders.proofs.cases.the_clock_moves_last.Goals as goal

pub returns : goal.returns
returns c = record { order = refl; moment = refl }
