use Rattle.std.proofs.Common.{◌++◌}
use Rattle.end_rows.specs.EndRows.{end_rows}
use Rattle.end_rows.proofs.Changes.{Written}
use Rattle.end_rows.proofs.rows.put_end_rows.Given as goal

abbrev pub invariant-loop-stamp : goal.invariant-loop-stamp
invariant-loop-stamp l = Written l.world l.entries l.stamp l.runner l.ends.entries l.out (l.initial.out ++ end_rows l.world l.entries)
