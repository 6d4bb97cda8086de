use Rattle.history_laws.proofs.PairsOnce.{once}
use Rattle.history_laws.proofs.law.a_pair_is_given_once.Goals as goal

pub returns : goal.returns
returns c = once
