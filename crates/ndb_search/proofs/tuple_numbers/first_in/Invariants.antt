use Rattle.std.proofs.Common.{◌≡◌, [], take}
use Rattle.ndb_search.specs.Numbers.{numbers_in}
use Rattle.ndb_search.proofs.tuple_numbers.first_in.Given as goal

abbrev pub invariant-loop-place : goal.invariant-loop-place
invariant-loop-place l = numbers_in l.kind (take l.place l.tuple) ≡ []
