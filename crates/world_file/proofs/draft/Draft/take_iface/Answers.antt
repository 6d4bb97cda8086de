use Rattle.std.proofs.Common.{◌∙◌}
use Rattle.std.specs.Prelude.{bit_and}
use Rattle.world_text.specs.WorldLines as spec
use Rattle.world_file.proofs.Drafts.{not_last, set_last, with_hosts}
use Rattle.world_file.proofs.draft.Draft.take_iface.Goals as goal

pub add_iface-requires : goal.add_iface-requires
add_iface-requires c =
    not_last (spec.knows_network (bit_and c.args.iface.ip c.args.iface.mask) c.args.iface.mask) _ c.args.self.now c.len-count.result c.index_mut-host.result.now c.self.view_is
    (c.len-count.ensures ∙ c.self.inside.hosts.ok.0) c.if-count-gt0.true c.index_mut-host.ensures.value c.requires.under c.requires.new

pub returns-in_ok-add_iface : goal.returns-in_ok-add_iface
returns-in_ok-add_iface c =
    with_hosts _ c.args.self.now _ (spec.at_last (spec.with_iface c.args.iface)) c.self.view_is
    (set_last (spec.with_iface c.args.iface) c.self.inside.hosts.items c.len-count.result c.index_mut-host.result.now c.add_iface.new.self
    (c.len-count.ensures ∙ c.self.inside.hosts.ok.0) c.if-count-gt0.true c.index_mut-host.ensures.value c.in_ok-add_iface.ensures)
