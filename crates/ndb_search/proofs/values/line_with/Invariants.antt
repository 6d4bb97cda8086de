use Rattle.std.proofs.Common.{◌≡◌, take, None}
use Rattle.std.specs.Prelude.{find}
use Rattle.net_base.specs.Search as spec
use Rattle.ndb_search.proofs.values.line_with.Given as goal

abbrev pub invariant-loop-number : goal.invariant-loop-number
invariant-loop-number l = find (spec.line_has l.attr l.value) (take l.number l.tuple) ≡ None
