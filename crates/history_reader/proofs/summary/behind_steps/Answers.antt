use Rattle.std.proofs.Common.{sym, ◌∙◌}
use Rattle.history_reader.specs.LineReading.{is_steps}
use Rattle.history_reader.proofs.Readings.{passed_on}
use Rattle.history_reader.proofs.summary.behind_steps.Goals as goal

pub returns-then-is_steps : goal.returns-then-is_steps
returns-then-is_steps c = passed_on is_steps c.args.text.now c.in_ok-line.line.now c.in_ok-line.rest.now c.in_ok-line.ensures.cut (sym c.is_steps.ensures ∙ c.if-is_steps.true)
