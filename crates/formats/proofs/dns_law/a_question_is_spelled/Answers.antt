use Rattle.formats.proofs.QuestionLaws.{is_read}
use Rattle.formats.proofs.dns_law.a_question_is_spelled.Goals as goal

pub returns : goal.returns
returns c = is_read
