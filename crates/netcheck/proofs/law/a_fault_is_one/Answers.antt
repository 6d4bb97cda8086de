use Rattle.netcheck.proofs.Laws.{one_fault}
use Rattle.netcheck.proofs.law.a_fault_is_one.Goals as goal

pub returns : goal.returns
returns c = one_fault
