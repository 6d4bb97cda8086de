use Rattle.page_payload.proofs.Payloads.{payload_plain}
use Rattle.page_payload.proofs.law.payloads_are_plain.Goals as goal

pub returns : goal.returns
returns c = λ input packets steps ends are p q r. payload_plain input packets steps ends are p q r
