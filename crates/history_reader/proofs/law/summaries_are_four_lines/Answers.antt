use Rattle.history_reader.proofs.Printed.{four_lines}
use Rattle.history_reader.proofs.law.summaries_are_four_lines.Goals as goal

pub returns : goal.returns
returns c = four_lines
