use Rattle.script_task.proofs.Settling.{settles_so}
use Rattle.script_task.proofs.law.effects_settle.Goals as goal

pub returns : goal.returns
returns c = settles_so
