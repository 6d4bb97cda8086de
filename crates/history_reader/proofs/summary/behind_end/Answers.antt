use Rattle.std.proofs.Common.{sym, ◌∙◌}
use Rattle.history_reader.specs.LineReading.{is_end}
use Rattle.history_reader.proofs.Readings.{passed_on}
use Rattle.history_reader.proofs.summary.behind_end.Goals as goal

pub returns-then-is_end : goal.returns-then-is_end
returns-then-is_end c = passed_on is_end c.args.text.now c.in_ok-line.line.now c.in_ok-line.rest.now c.in_ok-line.ensures.cut (sym c.is_end.ensures ∙ c.if-is_end.true)
