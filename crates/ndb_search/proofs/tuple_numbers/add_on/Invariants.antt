use Rattle.std.proofs.Common.{◌≡◌, ◌++◌, take}
use Rattle.ndb_search.specs.Numbers.{numbers_on}
use Rattle.ndb_search.proofs.tuple_numbers.add_on.Given as goal

abbrev pub invariant-loop-place : goal.invariant-loop-place
invariant-loop-place l = l.numbers.items ≡ l.initial.numbers.items ++ numbers_on l.kind (take l.place l.line)
