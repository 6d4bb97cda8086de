use Rattle.netcheck.proofs.Either.{legal_or_fault}
use Rattle.netcheck.proofs.law.legal_or_at_fault.Goals as goal

pub returns : goal.returns
returns c = legal_or_fault
