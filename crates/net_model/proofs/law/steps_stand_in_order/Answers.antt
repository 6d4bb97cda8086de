use Rattle.net_model.proofs.OwnEntries.{keeps_script}
use Rattle.net_model.proofs.StepsAsk.{step_asks}
use Rattle.net_model.proofs.law.steps_stand_in_order.Goals as goal

pub returns : goal.returns
returns c = record {
  each = step_asks;
  in_order = λ w h k s legal is. keeps_script w k s is h legal;
}
