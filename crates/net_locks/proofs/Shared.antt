-- What other crates cite of these proofs.

-- passes that hold the numbers of all callers, and how callers stand by them
pub use Rattle.net_locks.proofs.Sighted.{clock_at}
-- the net after noted entries: what one entry more changes, and that an actor's state is the fold of its own book
pub use Rattle.net_locks.proofs.Nets.{named_left}
