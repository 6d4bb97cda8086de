use Rattle.ndb_reader.proofs.Filing.{name_begins}
use Rattle.ndb_reader.proofs.bundle.name_begin.Goals as goal

pub returns : goal.returns
returns c = name_begins c.args.ends.now c.args.number _ c.if-number-eq0.false c.requires
