-- What other crates cite of these proofs.

-- an actor has sent, got and laid no more than works led to it
pub use Rattle.net_actors.proofs.FewWorks.{few_works}
-- the numbers of actors tell them apart
pub use Rattle.net_actors.proofs.Numbering.{among_is}
-- what a world says of the host or the medium of an actor
pub use Rattle.net_actors.proofs.Said.{some_versions}
