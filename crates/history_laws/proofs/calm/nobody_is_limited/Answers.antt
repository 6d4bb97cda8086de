use Rattle.history_laws.proofs.CalmLimits.{nobody}
use Rattle.history_laws.proofs.calm.nobody_is_limited.Goals as goal

pub returns : goal.returns
returns c = nobody
