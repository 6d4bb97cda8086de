-- What other crates cite of these proofs.

-- the moment of a net, where each entry was ready
pub use Rattle.transcript.proofs.Latest.{moment_of_ready}
-- words say what they were made of, and are clean
pub use Rattle.transcript.proofs.Told.{address_is}
