use Rattle.std.proofs.Common.{◌-◌}
use Rattle.transcript.proofs.halves.+fn-text_by_halves-join+arg2+fn-text_by_halves-join+arg3+text_by_halves.Given as goal

abbrev pub decreases-join+arg2 : goal.decreases-join+arg2
decreases-join+arg2 g l = l.middle - l.first

abbrev pub decreases-join+arg3 : goal.decreases-join+arg3
decreases-join+arg3 g l = l.last - l.middle

abbrev pub decreases-text_by_halves : goal.decreases-text_by_halves
decreases-text_by_halves g l = l.last - l.first
