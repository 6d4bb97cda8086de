use Rattle.net_locks.proofs.Guests.{meets_this, meets_that}
use Rattle.net_locks.proofs.threads.guests_meet.Goals as goal

pub returns : goal.returns
returns c =
    record {
      this = λ w r caller p q p' ds guest met. meets_this c.callers_are_apart.ensures.later w r caller p p' ds guest q met;
      that = λ w r caller p q p' ds guest met. meets_that c.callers_are_apart.ensures.later w r caller q p' ds guest p met;
    }
