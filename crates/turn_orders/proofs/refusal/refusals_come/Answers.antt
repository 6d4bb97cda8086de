use Rattle.turn_orders.proofs.RefusedPaths.{refusals_begin, refusals_end, refusals_go_on, refusals_show}
use Rattle.turn_orders.proofs.refusal.refusals_come.Goals as goal

pub returns : goal.returns
returns c = record { begin = refusals_begin; show = refusals_show; go_on = refusals_go_on; end = refusals_end }
