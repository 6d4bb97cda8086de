use Rattle.std.proofs.Common.{◌≡◌, ◌≤◌}
use Rattle.std.specs.Prelude.{slice_range}
use Rattle.net_base.specs.Store.{with_tuples}
use Rattle.ndb_reader.proofs.copy.add_tuples.Given as goal

abbrev pub invariant-loop-place : goal.invariant-loop-place
invariant-loop-place l = (l.first ≤ l.place) × (l.out ≡ with_tuples (slice_range l.db l.first l.place) l.initial.out)
