use Rattle.net_locks.proofs.Guests.{has_recorded}
use Rattle.net_locks.proofs.threads.guests_record.Goals as goal

pub returns : goal.returns
returns c =
    λ w r a caller now work cites p ds stamp o p' guest turn done.
    has_recorded c.callers_are_apart.ensures.later c.locks_keep_actors.ensures.state w r caller p p' ds a now work cites stamp o guest turn done
