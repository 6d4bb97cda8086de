use Rattle.page_payload.proofs.ReadBack.{lines_back}
use Rattle.page_payload.proofs.law.inputs_are_read_back.Goals as goal

pub returns : goal.returns
returns c = λ input behind. lines_back input behind
