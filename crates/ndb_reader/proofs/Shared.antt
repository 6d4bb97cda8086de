-- What other crates cite of these proofs.

-- a bundle without a bad line is spelled by the tuples of its database
pub use Rattle.ndb_reader.proofs.Bundles.{bundle-is-spelled, push-line}
-- the names that a tuple gives, a line and a pair at a time, and the tuple that chooses
pub use Rattle.ndb_reader.proofs.Chosen.{name_put}
-- names, each once, a name at a time
pub use Rattle.ndb_reader.proofs.Once.{names_append, once_all}
-- a text that is read line by line
pub use Rattle.ndb_reader.proofs.Reading.{before-more, before-stop, named-more, named-stop, reading-is}
-- entries that are put before the others
pub use Rattle.ndb_reader.proofs.Entries.{first-within}
-- a walk along a chain meets what has its bucket, in order
pub use Rattle.ndb_reader.proofs.Walks.{Met, in_bucket, met, none-met}
