use Rattle.net_base.specs.Plain.{AreBytes}
use Rattle.history_reader.proofs.Widths.{EachBefore}
use Rattle.history_reader.proofs.wide.texts.Given as goal

abbrev pub invariant-loop-place : goal.invariant-loop-place
invariant-loop-place l = EachBefore AreBytes l.place l.lines
