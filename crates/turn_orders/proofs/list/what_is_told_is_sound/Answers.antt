use Rattle.turn_orders.proofs.Telling.{told_sound}
use Rattle.turn_orders.proofs.list.what_is_told_is_sound.Goals as goal

pub returns : goal.returns
returns c = record {
  within = λ w p n t world there. (told_sound w p n t world there).within;
  outcome = λ w p n t world there. (told_sound w p n t world there).outcome;
  preemptions = λ w p n t world there. (told_sound w p n t world there).preemptions;
}
