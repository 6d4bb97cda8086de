use Rattle.history_laws.proofs.Histories.{state_is_fold}
use Rattle.history_laws.proofs.law.state_is_fold.Goals as goal

pub returns : goal.returns
returns c = state_is_fold
