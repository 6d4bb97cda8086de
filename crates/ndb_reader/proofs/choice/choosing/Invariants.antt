use Rattle.std.proofs.Common.{◌≡◌, take, None}
use Rattle.net_base.specs.NdbBundle as spec
use Rattle.ndb_reader.proofs.choice.choosing.Given as goal

abbrev pub invariant-loop-place : goal.invariant-loop-place
invariant-loop-place l = spec.choosing (take l.place l.db) ≡ None
