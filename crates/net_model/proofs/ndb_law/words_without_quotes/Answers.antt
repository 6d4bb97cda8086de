use Rattle.formats.proofs.Shared.{words_of-plain}
use Rattle.net_model.proofs.ndb_law.words_without_quotes.Goals as goal

pub returns : goal.returns
returns c = words_of-plain
