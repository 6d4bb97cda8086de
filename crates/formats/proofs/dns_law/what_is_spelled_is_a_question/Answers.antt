use Rattle.formats.proofs.QuestionLaws.{is_found}
use Rattle.formats.proofs.dns_law.what_is_spelled_is_a_question.Goals as goal

pub returns : goal.returns
returns c = is_found
