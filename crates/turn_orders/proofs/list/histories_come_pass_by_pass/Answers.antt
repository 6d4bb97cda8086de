use Rattle.turn_orders.proofs.Numbering.{first_pass, last_pass, next_pass}
use Rattle.turn_orders.proofs.list.histories_come_pass_by_pass.Goals as goal

pub returns : goal.returns
returns c = record { first = first_pass; next = next_pass; last = last_pass }
