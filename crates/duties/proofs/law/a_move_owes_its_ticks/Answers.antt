use Rattle.std.proofs.Common.{◌∙◌, sym}
use Rattle.duties.proofs.Ticks.{move_owes, ticks_are}
use Rattle.duties.proofs.law.a_move_owes_its_ticks.Goals as goal

pub returns : goal.returns
returns c = λ w actors stamp now with before moment step gives.
    move_owes w actors stamp now with before moment step gives ∙ sym (ticks_are w actors stamp now)
