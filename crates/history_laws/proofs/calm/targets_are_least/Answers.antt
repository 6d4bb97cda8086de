use Rattle.history_laws.proofs.Targets.{is_target}
use Rattle.history_laws.proofs.calm.targets_are_least.Goals as goal

pub returns : goal.returns
returns c = is_target
