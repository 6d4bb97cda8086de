use Rattle.net_locks.proofs.Passes.{stays_by}
use Rattle.net_locks.proofs.threads.guests_stay_by_others.Goals as goal

pub returns : goal.returns
returns c =
    λ w r a caller e now work cites p ds stamp o p' guest other done.
    stays_by c.callers_are_apart.ensures.later w r caller p p' a now work cites stamp o done e ds other guest
