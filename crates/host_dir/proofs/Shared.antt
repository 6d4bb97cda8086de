-- What other crates cite of these proofs.

-- which works have an answer
pub use Rattle.host_dir.proofs.Ready.{ready_is}
