use Rattle.std.proofs.Common.{◌∙◌}
use Rattle.net_base.proofs.Kept.{value-last}
use Rattle.net_base.proofs.ndb.runs.value_end.Goals as goal

pub returns : goal.returns
returns c = c.value_begin.ensures ∙ value-last 0 c.args.marks.now
