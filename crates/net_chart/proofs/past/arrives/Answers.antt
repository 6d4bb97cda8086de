use Rattle.std.proofs.Common.{◌∙◌}
use Rattle.net_chart.proofs.past.arrives.Goals as goal

pub returns : goal.returns
returns c = c.contains.ensures ∙ c.requires c.args.key
