-- What other crates cite of these proofs.

-- the event of a request is that of its play
pub use Rattle.script_task.proofs.Events.{close_is, hear_is, open_is, read_is, write_is}
-- the effect of a request settles the names as the request does
pub use Rattle.script_task.proofs.Settling.{settles_so, unbind_free}
