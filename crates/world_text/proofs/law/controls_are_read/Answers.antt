use Rattle.world_text.proofs.Controls.{reads_exactly, faults}
use Rattle.world_text.proofs.law.controls_are_read.Goals as goal

pub returns : goal.returns
returns c = record { ok = reads_exactly; bad_word = λ text. (faults text).0; bad_argument = λ text. (faults text).1 }
