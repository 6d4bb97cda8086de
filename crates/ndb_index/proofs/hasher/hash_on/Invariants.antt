use Rattle.std.proofs.Common.{◌≡◌, take}
use Rattle.std.specs.Prelude.{fold}
use Rattle.ndb_index.specs.Hashing.{step}
use Rattle.ndb_index.proofs.hasher.hash_on.Given as goal

abbrev pub invariant-loop-byte : goal.invariant-loop-byte
invariant-loop-byte l = l.hash ≡ fold step l.initial.hash (take l.byte-index l.bytes)
