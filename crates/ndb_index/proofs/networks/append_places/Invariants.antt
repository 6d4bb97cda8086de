use Rattle.std.proofs.Common.{◌≡◌, ◌++◌, length}
use Rattle.ndb_index.proofs.networks.append_places.Given as goal

abbrev pub invariant-loop-place : goal.invariant-loop-place
invariant-loop-place l = l.own.items ++ l.set.keys ≡ l.initial.own.items ++ l.fn.set.keys

abbrev pub decreases-loop-place : goal.decreases-loop-place
decreases-loop-place l = length l.set.keys
