use Rattle.std.proofs.Common.{sym, ap, ◌∙◌}
use Rattle.world_text.specs.WorldLines as spec
use Rattle.world_file.proofs.Drafts.{new_iface, new_route}
use Rattle.world_file.proofs.draft.Draft.take_host_line.Goals as goal

pub take_iface-requires-clause-new : goal.take_iface-requires-clause-new
take_iface-requires-clause-new c =
    new_iface c.args.self.now c.in-If.medium c.in-If.ip c.in-If.mask (sym (ap (spec.host_line_cause c.args.self.now) c.in-If.is) ∙ c.requires.good)

pub take_route-requires-clause-new : goal.take_route-requires-clause-new
take_route-requires-clause-new c =
    new_route c.args.self.now c.in-Route.route (sym (ap (spec.host_line_cause c.args.self.now) c.in-Route.is) ∙ c.requires.good)
