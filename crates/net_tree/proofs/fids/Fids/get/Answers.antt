use Rattle.std.proofs.Common.{ap, ◌∙◌, option_map}
use Rattle.net_tree.specs.Bindings.{bound_file}
use Rattle.net_tree.proofs.Newest.{fid_found}
use Rattle.net_tree.proofs.fids.Fids.get.Goals as goal

pub returns : goal.returns
returns c =
    rw (← c.self.view_is)
    (ap (λ f. option_map bound_file f) (c.copied.ensures ∙ c.get.ensures.value) ∙ fid_found c.args.name.now c.self.inside.entries.entries c.self.invariant.0)
