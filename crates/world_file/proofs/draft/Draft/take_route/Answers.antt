use Rattle.std.proofs.Common.{◌∙◌}
use Rattle.world_text.specs.WorldLines as spec
use Rattle.world_file.proofs.Drafts.{not_last, set_last, with_hosts}
use Rattle.world_file.proofs.draft.Draft.take_route.Goals as goal

pub add_route-requires : goal.add_route-requires
add_route-requires c =
    not_last (spec.knows_network c.args.route.net c.args.route.mask) _ c.args.self.now c.len-count.result c.index_mut-host.result.now c.self.view_is
    (c.len-count.ensures ∙ c.self.inside.hosts.ok.0) c.if-count-gt0.true c.index_mut-host.ensures.value c.requires.under c.requires.new

pub returns-in_ok-add_route : goal.returns-in_ok-add_route
returns-in_ok-add_route c =
    with_hosts _ c.args.self.now _ (spec.at_last (spec.with_route c.args.route)) c.self.view_is
    (set_last (spec.with_route c.args.route) c.self.inside.hosts.items c.len-count.result c.index_mut-host.result.now c.add_route.new.self
    (c.len-count.ensures ∙ c.self.inside.hosts.ok.0) c.if-count-gt0.true c.index_mut-host.ensures.value c.in_ok-add_route.ensures)
