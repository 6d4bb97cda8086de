use Rattle.turn_orders.proofs.Refusing.{none_with_more}
use Rattle.turn_orders.proofs.refusal.refusals_tell_of_more.Goals as goal

pub returns : goal.returns
returns c = none_with_more
