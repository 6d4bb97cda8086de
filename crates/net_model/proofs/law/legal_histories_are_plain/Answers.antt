use Rattle.net_model.proofs.PlainHistories.{legal_is_plain}
use Rattle.net_model.proofs.law.legal_histories_are_plain.Goals as goal

pub returns : goal.returns
returns c = legal_is_plain
