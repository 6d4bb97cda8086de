use Rattle.std.proofs.Common.{ap, ◌∙◌, option_map, vec_items, List, []}
use Rattle.net_base.specs.Steps.{Bound}
use Rattle.net_tree.specs.Bindings.{bound_file, newest_onto}
use Rattle.net_tree.proofs.Newest.{fid_found, unbound}
use Rattle.net_tree.proofs.fids.Fids.unbind.Goals as goal

pub returns-clause-found : goal.returns-clause-found
returns-clause-found c =
    rw (← c.self.view_is)
    (ap (λ f. option_map bound_file f) c.shift_remove.ensures.value ∙ fid_found c.args.name.now c.self.inside.entries.entries c.self.invariant.0)

pub returns-clause-rest : goal.returns-clause-rest
returns-clause-rest c =
    rw (← c.self.view_is)
    (ap (λ (names : List Bound). record { names = names; reserved = option_map vec_items c.self.inside.kept })
    (ap (λ es. newest_onto [] es) c.shift_remove.ensures.entries ∙ unbound c.args.name.now c.self.inside.entries.entries c.self.invariant.0))
