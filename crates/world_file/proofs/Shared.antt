-- What other crates cite of these proofs.

-- what a text of sessions says has a script of its host in the place of each session, and is a world
pub use Rattle.world_file.proofs.SessionWorlds.{ok-err}
