-- What other crates cite of these proofs.

-- how many steps of the scripts are answered
pub use Rattle.host_net.proofs.Answered.{replies_after}
