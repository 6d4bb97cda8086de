use Rattle.std.proofs.Common.{◌∙◌}
use Rattle.net_base.proofs.Found.{last-is}
use Rattle.net_base.proofs.ndb.runs.end_of.Goals as goal

pub returns : goal.returns
returns c = c.begin_of.ensures ∙ last-is 0 c.args.ends.now
