use Rattle.history_reader.specs.Wide.{IsWideEntry}
use Rattle.history_reader.proofs.Widths.{EachBefore}
use Rattle.history_reader.proofs.wide.histories_are_wide.Given as goal

abbrev pub invariant-loop-stamp : goal.invariant-loop-stamp
invariant-loop-stamp g l = EachBefore IsWideEntry l.stamp (g.E.Entries.list l.history)
