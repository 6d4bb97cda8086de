use Rattle.std.proofs.Common.{refl}
use Rattle.turn_orders.proofs.cases.a_refusal_is_the_result.Goals as goal

pub returns : goal.returns
returns c = record { before = refl; last = refl; accepted = refl; word = refl }
