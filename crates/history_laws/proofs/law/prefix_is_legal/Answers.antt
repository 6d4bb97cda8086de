use Rattle.history_laws.proofs.Histories.{legal_take, timed_take}
use Rattle.history_laws.proofs.law.prefix_is_legal.Goals as goal

pub returns : goal.returns
returns c = record { legal = legal_take; timed = timed_take }
