use Rattle.turn_orders.proofs.Turning.{comes_next, grows_so, next_is}
use Rattle.turn_orders.proofs.law.entries_are_turns.Goals as goal

pub returns : goal.returns
returns c = record { next = next_is; grows = grows_so; comes = comes_next }
