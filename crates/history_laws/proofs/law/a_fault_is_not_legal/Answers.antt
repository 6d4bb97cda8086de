use Rattle.history_laws.proofs.Histories.{fault_is_not_legal}
use Rattle.history_laws.proofs.law.a_fault_is_not_legal.Goals as goal

pub returns : goal.returns
returns c = fault_is_not_legal
