use Rattle.page_payload.proofs.Plainness.{input_plain}
use Rattle.page_payload.proofs.law.inputs_are_plain.Goals as goal

pub returns : goal.returns
returns c = λ input are. input_plain input are
