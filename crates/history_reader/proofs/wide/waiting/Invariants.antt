use Rattle.history_reader.proofs.Widths.{EachBefore, IsWideCall}
use Rattle.history_reader.proofs.wide.waiting.Given as goal

abbrev pub invariant-loop-place : goal.invariant-loop-place
invariant-loop-place l = EachBefore IsWideCall l.place l.calls
