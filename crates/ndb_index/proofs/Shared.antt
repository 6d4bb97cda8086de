-- What other crates cite of these proofs.

-- what is near a system: the tuples at its spots, and those of its networks at their places
pub use Rattle.ndb_index.proofs.Nearby.{Db, same_default, spots_count, spots_found, spots_within}
