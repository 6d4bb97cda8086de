use Rattle.ndb_reader.proofs.Chosen.{name_put}
use Rattle.ndb_reader.proofs.choice.add_name.Goals as goal

pub returns : goal.returns
returns c = name_put c.args.names.now.keys c.insert.new.self.keys c.in_ok-name.name c.args.name.now c.in_ok-name.ensures.items c.in_ok-insert.ensures.keys
