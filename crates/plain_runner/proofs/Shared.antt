-- What other crates cite of these proofs.

-- the clock's turn to move
pub use Rattle.plain_runner.proofs.Advancing.{clock_plain}
-- a run that follows a history: the entry that it records is the one that may follow
pub use Rattle.plain_runner.proofs.Following.{IsClockMove, clock_moves, followed_all, may_next, no_move, same_fields, some_step}
-- a history grows by the entry of a turn
pub use Rattle.plain_runner.proofs.Growing.{has_by}
-- how a run stands after a legal history: done, stopped, limited, or none of these
pub use Rattle.plain_runner.proofs.Halting.{moment_within}
-- what the entry of a turn leaves of a run
pub use Rattle.plain_runner.proofs.Recorded.{got}
