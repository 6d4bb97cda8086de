use Rattle.std.proofs.Common.{drop, length}
use Rattle.net_base.specs.Duties.{close_calls}
use Rattle.duties.proofs.Loops.{Owing}
use Rattle.duties.proofs.follow_up.Home.close_calls.Given as goal

abbrev pub invariant-loop-call : goal.invariant-loop-call
invariant-loop-call l =
    Owing l.initial.owed l.owed (close_calls l.self.host l.self.proto l.self.stamp (drop l.call-index l.calls))
    (close_calls l.self.host l.self.proto l.self.stamp l.calls) l.call-index (length l.calls)
