use Rattle.turn_orders.proofs.Growing.{is_its_callers, same_callers}
use Rattle.turn_orders.proofs.law.a_history_is_its_callers.Goals as goal

pub returns : goal.returns
returns c = record { turns = is_its_callers; same = same_callers }
