use Rattle.replay_views.proofs.StepLines.{have_lines}
use Rattle.replay_views.proofs.law.steps_have_lines.Goals as goal

pub returns : goal.returns
returns c = λ text behind w is ends. have_lines text behind w is ends
