use Rattle.std.proofs.Common.{◌≡◌, take}
use Rattle.ndb_search.specs.Numbers.{numbers_found}
use Rattle.ndb_search.proofs.numbers.numbers_found.Given as goal

abbrev pub invariant-loop-place : goal.invariant-loop-place
invariant-loop-place l = l.numbers.items ≡ numbers_found l.attr l.value l.kind (take l.place l.db)
