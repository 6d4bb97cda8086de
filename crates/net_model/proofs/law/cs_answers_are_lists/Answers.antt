use Rattle.net_model.proofs.CsAnswers.{answers_cs}
use Rattle.net_model.proofs.law.cs_answers_are_lists.Goals as goal

pub returns : goal.returns
returns c = λ w h k x query legal stands is. answers_cs w h k x query legal stands is
