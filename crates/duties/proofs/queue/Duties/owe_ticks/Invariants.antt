use Rattle.std.proofs.Common.{drop, length}
use Rattle.duties.specs.Ticking.{ticks_of}
use Rattle.duties.proofs.Loops.{Owing}
use Rattle.duties.proofs.queue.Duties.owe_ticks.Given as goal

abbrev pub invariant-loop-due : goal.invariant-loop-due
invariant-loop-due l =
    Owing l.initial.self l.self (ticks_of l.stamp l.now (drop l.due-index l.dues)) (ticks_of l.stamp l.now l.dues) l.due-index (length l.dues)
