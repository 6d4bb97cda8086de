use Rattle.std.proofs.Common.{◌≡◌, None, take}
use Rattle.std.specs.Prelude.{codes}
use Rattle.net_base.specs.Search.{tuples_with}
use Rattle.ndb_search.specs.Closest.{first_filled}
use Rattle.ndb_search.proofs.near.closest_of.Given as goal

abbrev pub invariant-loop-place : goal.invariant-loop-place
invariant-loop-place l = first_filled l.attr (tuples_with (codes "sys") l.me (take l.place l.db)) ≡ None
