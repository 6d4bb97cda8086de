use Rattle.page_payload.proofs.Payloads.{payload_back}
use Rattle.page_payload.proofs.law.payloads_are_read_back.Goals as goal

pub returns : goal.returns
returns c = λ input packets steps ends behind. payload_back input packets steps ends behind
