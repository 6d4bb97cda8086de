use Rattle.live_lines.proofs.LinesBack.{line-back}
use Rattle.live_lines.proofs.law.spelled_lines_are_read.Goals as goal

pub returns : goal.returns
returns c = line-back c.lines_are_spelled.ensures.complete
