use Rattle.net_model.proofs.NdbFirsts.{bad_is_first}
use Rattle.net_model.proofs.ndb_law.bad_lines_are_first.Goals as goal

pub returns : goal.returns
returns c = bad_is_first
