use Rattle.net_model.proofs.Endings.{told_so, told_too_long}
use Rattle.net_model.proofs.answer.tell_error.Goals as goal

pub returns-in-TooLarge : goal.returns-in-TooLarge
returns-in-TooLarge g c = told_so _ _ c.in-TooLarge.is _ _ (told_too_long _ _ c.tell.ensures)
