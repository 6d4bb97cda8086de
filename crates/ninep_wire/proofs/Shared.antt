-- What other crates cite of these proofs.

-- what a decoder needs: bytes that spell a message have its header and are read as it, and what is read is spelled so
pub use Rattle.ninep_wire.proofs.Whole.{t_only}
