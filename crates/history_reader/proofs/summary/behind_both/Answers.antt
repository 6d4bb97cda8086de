use Rattle.std.proofs.Common.{sym, ◌∙◌}
use Rattle.history_reader.specs.LineReading.{are_both_words}
use Rattle.history_reader.proofs.Readings.{passed_on}
use Rattle.history_reader.proofs.summary.behind_both.Goals as goal

pub returns-then-is_both : goal.returns-then-is_both
returns-then-is_both c = passed_on (are_both_words c.args.word.now) c.args.text.now c.in_ok-line.line.now c.in_ok-line.rest.now c.in_ok-line.ensures.cut (sym c.is_both.ensures ∙ c.if-is_both.true)
