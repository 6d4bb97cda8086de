use Rattle.std.proofs.Common.{ap, ◌∙◌, ◌++◌, ◌∷◌, [], List}
use Rattle.net_base.specs.declared.world.RouteLine.{RouteLine}
use Rattle.world_text.specs.WorldLines.{knows_network}
use Rattle.world_file.proofs.Networks.{route_put, same_key, same_pair}
use Rattle.world_file.proofs.host.HostDraft.add_route.Goals as goal

pub invariant_of-self-2 : goal.invariant_of-self-2
invariant_of-self-2 c =
    route_put same_pair c.self.inside.networks.keys c.insert.new.self.keys
    (record { name = c.self.inside.name; nets = c.self.inside.nets; ifaces = c.self.inside.ifaces.items; routes = c.self.inside.routes.items; starts = c.self.inside.starts.items })
    c.args.route c.push.new.self.items
    same_key c.self.invariant (ap (knows_network c.args.route.net c.args.route.mask) c.self.view_is ∙ c.requires)
    c.in_ok-insert.ensures.keys
    (c.in_ok-push.ensures.items ∙ ap (λ (xs : List RouteLine). xs ++ c.args.route ∷ []) c.reserve.ensures.items)
