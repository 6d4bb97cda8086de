use Rattle.session_script.proofs.Sayable.{script_said}
use Rattle.session_script.proofs.law.scripts_can_be_said.Goals as goal

pub returns : goal.returns
returns c = script_said
