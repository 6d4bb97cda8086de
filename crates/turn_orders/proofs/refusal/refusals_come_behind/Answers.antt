use Rattle.std.proofs.Common.{refl}
use Rattle.turn_orders.proofs.RefusedPaths.{refusals_go_back, refusals_turn}
use Rattle.turn_orders.proofs.refusal.refusals_come_behind.Goals as goal

pub returns : goal.returns
returns c = record { nothing = λ w p. refl; turn = refusals_turn; go_back = refusals_go_back }
