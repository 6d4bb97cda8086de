use Rattle.std.proofs.Common.{ap, ◌∙◌, ◌++◌, ◌∷◌, [], List}
use Rattle.std.specs.Prelude.{bit_and}
use Rattle.net_base.specs.declared.world.Iface.{Iface}
use Rattle.world_text.specs.WorldLines.{knows_network}
use Rattle.world_file.proofs.Networks.{iface_put, same_key, same_pair}
use Rattle.world_file.proofs.host.HostDraft.add_iface.Goals as goal

pub invariant_of-self-2 : goal.invariant_of-self-2
invariant_of-self-2 c =
    iface_put same_pair c.self.inside.networks.keys c.insert.new.self.keys
    (record { name = c.self.inside.name; nets = c.self.inside.nets; ifaces = c.self.inside.ifaces.items; routes = c.self.inside.routes.items; starts = c.self.inside.starts.items })
    c.args.iface c.push.new.self.items
    same_key c.self.invariant (ap (knows_network (bit_and c.args.iface.ip c.args.iface.mask) c.args.iface.mask) c.self.view_is ∙ c.requires)
    c.in_ok-insert.ensures.keys
    (c.in_ok-push.ensures.items ∙ ap (λ (xs : List Iface). xs ++ c.args.iface ∷ []) c.reserve.ensures.items)
