use Rattle.std.proofs.Common.{Err, ap, refl, ◌∙◌}
use Rattle.netcheck.proofs.input.judge.Goals as goal

pub returns-in-Ok : goal.returns-in-Ok
returns-in-Ok c = (refl, c.in-Ok.ensures.legal refl, c.in-Ok.ensures.timed refl)

pub returns-in-Err-Fault : goal.returns-in-Err-Fault
returns-in-Err-Fault c = c.check.ensures.fault _ _ (c.in-Err-Fault.is ∙ ap Err c.in-Err-Fault.field-0-is)
