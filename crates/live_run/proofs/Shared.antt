-- What other crates use of these proofs.

-- the last line keeps what the lines say of the places
pub use Rattle.live_run.proofs.Hearing.{told_last}
