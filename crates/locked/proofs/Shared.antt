-- What other crates cite of these proofs.

-- what a pass still holds after an act, for the tests
pub use Rattle.locked.proofs.Turns.{below_one, below_two, first_blank, only_blank, same_moment, still_holds}
