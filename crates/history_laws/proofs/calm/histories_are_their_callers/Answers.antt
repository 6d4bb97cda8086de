use Rattle.history_laws.proofs.CallerHistories.{by_callers}
use Rattle.history_laws.proofs.calm.histories_are_their_callers.Goals as goal

pub returns : goal.returns
returns c = by_callers
