-- What other crates cite of these proofs.

-- the prefixes that an address has, found by their lengths
pub use Rattle.ndb_search.proofs.Covered.{any_gives, any_wider, covers_none, same_any, same_truth}
-- the first bits of addresses, each once, and ranges of lengths
pub use Rattle.ndb_search.proofs.Firsts.{range_more, turned}
-- places stand for the tuples that pass a test
pub use Rattle.ndb_search.proofs.Found.{places_found}
-- the numbers beside a pair, a tuple at a time
pub use Rattle.ndb_search.proofs.FoundNumbers.{found_at, found_joins, found_one}
-- functions on lists that give the piece of each element in a row
pub use Rattle.ndb_search.proofs.Lists.{Joins}
-- values without empty ones, an element at a time, and the first tuple that has any
pub use Rattle.ndb_search.proofs.NonEmpty.{first_here, first_past, near_is, none_filled, one_filled}
-- each number once, an element at a time
pub use Rattle.ndb_search.proofs.Once.{among, among_others, few_once, once_more, once_push, others}
-- the numbers of a line, a tuple and a database, an element at a time
pub use Rattle.ndb_search.proofs.Pieces.{near_in, near_on}
