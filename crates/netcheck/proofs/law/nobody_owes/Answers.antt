use Rattle.netcheck.proofs.Laws.{nothing_next}
use Rattle.netcheck.proofs.Nobody.{owes_nothing}
use Rattle.netcheck.proofs.law.nobody_owes.Goals as goal

pub returns-clause-owes : goal.returns-clause-owes
returns-clause-owes c = owes_nothing

pub returns-clause-next : goal.returns-clause-next
returns-clause-next c = nothing_next
