use Rattle.std.proofs.Common.{◌≡◌, ◌-◌, drop, length}
use Rattle.ndb_index.specs.Moments.{earliest, earliest_moments}
use Rattle.ndb_index.proofs.versions.earliest_moments.Given as goal

-- the moments of those that were looked at, from the last on
abbrev pub invariant-loop-back : goal.invariant-loop-back
invariant-loop-back l =
    (l.earliest ≡ earliest (drop (length l.versions - l.back) l.versions))
    × (l.moments.items ≡ earliest_moments (drop (length l.versions - l.back) l.versions))
