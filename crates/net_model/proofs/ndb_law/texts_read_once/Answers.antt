use Rattle.net_base.specs.NdbBundle.{reading}
use Rattle.formats.proofs.Shared.{some_once}
use Rattle.net_model.proofs.ndb_law.texts_read_once.Goals as goal

pub returns : goal.returns
returns c = λ text db other. some_once (reading text) db other
