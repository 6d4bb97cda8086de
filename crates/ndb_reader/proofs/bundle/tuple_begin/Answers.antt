use Rattle.ndb_reader.proofs.Filing.{tuple_begins}
use Rattle.ndb_reader.proofs.bundle.tuple_begin.Goals as goal

pub returns : goal.returns
returns c = tuple_begins c.args.ends.now c.args.number _ c.if-number-eq0.false c.requires
