use Rattle.std.proofs.Common.{◌∙◌}
use Rattle.world_text.specs.WorldLines as spec
use Rattle.world_file.proofs.Drafts.{set_last, with_hosts}
use Rattle.world_file.proofs.draft.Draft.take_start.Goals as goal

pub returns-in_ok-add_start : goal.returns-in_ok-add_start
returns-in_ok-add_start c =
    with_hosts _ c.args.self.now _ (spec.at_last (spec.with_start c.args.start)) c.self.view_is
    (set_last (spec.with_start c.args.start) c.self.inside.hosts.items c.len-count.result c.index_mut-host.result.now c.add_start.new.self
    (c.len-count.ensures ∙ c.self.inside.hosts.ok.0) c.if-count-gt0.true c.index_mut-host.ensures.value c.in_ok-add_start.ensures)
