use Rattle.turn_orders.proofs.Following.{comes_follows}
use Rattle.turn_orders.proofs.law.turns_follow.Goals as goal

pub returns : goal.returns
returns c = λ w h c world legal there. let next = comes_follows w h c world legal there in (next.entry, next.is_next, next.caller_is, next.may, next.in_time)
