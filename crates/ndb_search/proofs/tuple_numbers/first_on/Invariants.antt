use Rattle.std.proofs.Common.{◌≡◌, [], take}
use Rattle.ndb_search.specs.Numbers.{numbers_on}
use Rattle.ndb_search.proofs.tuple_numbers.first_on.Given as goal

abbrev pub invariant-loop-place : goal.invariant-loop-place
invariant-loop-place l = numbers_on l.kind (take l.place l.line) ≡ []
