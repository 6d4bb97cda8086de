use Rattle.net_locks.proofs.Passes.{goes_over, stays_there, stays_here}
use Rattle.net_locks.proofs.threads.guests_hand_over.Goals as goal

pub returns : goal.returns
returns c =
    record {
      over = λ w r caller p q p' q' ds hands guest. goes_over c.callers_are_apart.ensures.later w r caller p q p' q' hands ds guest;
      there = λ w r caller d p q p' q' ds hands guest. stays_there c.callers_are_apart.ensures.later w r caller p q p' q' hands d ds guest;
      here = λ w r caller d p q p' q' ds hands other guest. stays_here c.callers_are_apart.ensures.later w r caller p q p' q' hands d ds other guest;
    }
