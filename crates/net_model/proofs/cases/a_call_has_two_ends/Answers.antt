use Rattle.net_model.proofs.CasesIl.{lossy_is_a_world, lossy_is_legal, called_is_met, calling_is_met, called_reads, calling_writes}
use Rattle.net_model.proofs.cases.a_call_has_two_ends.Goals as goal

pub returns : goal.returns
returns c = record { call = (lossy_is_a_world, lossy_is_legal, called_is_met); back = calling_is_met; written = calling_writes; read = called_reads }
