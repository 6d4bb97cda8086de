use Rattle.net_base.proofs.Marks.{value-begin}
use Rattle.net_base.proofs.ndb.runs.value_begin.Goals as goal

pub returns : goal.returns
returns c = value-begin c.args.marks.now c.args.number _ c.if-number-eq0.false c.requires
