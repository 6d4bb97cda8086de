use Rattle.history_laws.proofs.Owed.{cites_its_own}
use Rattle.history_laws.proofs.law.duties_cite_their_own.Goals as goal

pub returns : goal.returns
returns c = cites_its_own
