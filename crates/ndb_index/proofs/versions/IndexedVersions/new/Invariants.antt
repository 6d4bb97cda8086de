use Rattle.std.proofs.Common.{◌≡◌, ◌++◌, drop}
use Rattle.ndb_index.proofs.versions.IndexedVersions.new.Given as goal

-- those that are indexed, and those that are left
abbrev pub invariant-loop-version : goal.invariant-loop-version
invariant-loop-version l = l.indexed.items ++ drop l.version-index l.versions ≡ l.versions
