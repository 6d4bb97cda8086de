use Rattle.std.proofs.Common.{◌∙◌}
use Rattle.net_tree.proofs.Newest.{bound_found}
use Rattle.net_tree.proofs.fids.Fids.is_bound.Goals as goal

pub returns : goal.returns
returns c = rw (← c.self.view_is) (c.contains_key.ensures ∙ bound_found c.args.name.now c.self.inside.entries.entries)
