use Rattle.net_model.proofs.NdbBack.{read_whole, read_other}
use Rattle.net_model.proofs.NdbOwn.{first_is_whole}
use Rattle.net_model.proofs.ndb_law.written_databases_read_back.Goals as goal

pub returns : goal.returns
returns c = record { whole = read_whole; not_whole = read_other; first = first_is_whole }
