use Rattle.net_locks.proofs.Guests.{looks}
use Rattle.net_locks.proofs.threads.guests_look.Goals as goal

pub returns : goal.returns
returns c =
    λ w r caller p ds front p' guest look. looks c.callers_are_apart.ensures.later w r caller p p' ds guest front look
