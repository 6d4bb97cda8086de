use Rattle.history_laws.proofs.Calming.{clock_only_owes, is_busy, is_calm}
use Rattle.history_laws.proofs.calm.calm_is_that_nobody_could.Goals as goal

pub returns : goal.returns
returns c = record { calm = is_calm; busy = is_busy; clock = clock_only_owes }
