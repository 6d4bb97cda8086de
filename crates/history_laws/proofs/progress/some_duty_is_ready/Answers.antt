use Rattle.history_laws.proofs.Always.{owed_is_ready}
use Rattle.history_laws.proofs.progress.some_duty_is_ready.Goals as goal

pub returns : goal.returns
returns c = owed_is_ready
