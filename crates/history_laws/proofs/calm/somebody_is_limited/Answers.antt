use Rattle.history_laws.proofs.CalmLimits.{full_caller, full_clock}
use Rattle.history_laws.proofs.calm.somebody_is_limited.Goals as goal

pub returns : goal.returns
returns c =
    let limits = c.full_callers_limit.ensures.could in
    record { caller = full_caller limits; clock = full_clock limits }
