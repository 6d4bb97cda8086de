-- What other crates cite of these proofs.

-- one entry more of a caller
pub use Rattle.duties.proofs.Covering.{covers_other}
