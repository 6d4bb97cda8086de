-- What other crates cite of these proofs.

-- tasks come back, each to its place
pub use Rattle.agenda.proofs.Backing.{script_at, task_within}
