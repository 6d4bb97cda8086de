-- What other crates cite of these proofs.

-- entries of plays and of steps: one entry more, fewer entries, and how many steps are finished
pub use Rattle.prefix_law.proofs.Plays.{begins_asks, goes_on, replies, stood_take}
-- the own entries of a script's caller stand in order: so many of its steps are finished
pub use Rattle.prefix_law.proofs.Stood.{HasStood, asks_next, finished, stood}
