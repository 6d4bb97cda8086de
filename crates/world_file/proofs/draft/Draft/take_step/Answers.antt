use Rattle.std.proofs.Common.{◌∙◌, ap, List}
use Rattle.net_base.specs.declared.world.Step.{Step}
use Rattle.world_text.specs.WorldLines as spec
use Rattle.world_file.proofs.Drafts.{set_last, with_scripts}
use Rattle.world_file.proofs.draft.Draft.take_step.Goals as goal

pub returns-in_ok-push : goal.returns-in_ok-push
returns-in_ok-push c =
    with_scripts _ c.args.self.now _ (spec.at_last (spec.with_step c.args.step)) c.self.view_is
    (set_last (spec.with_step c.args.step) c.self.inside.scripts.items c.len-count.result c.index_mut-script.result.now
    (record { host = c.index_mut-script.result.now.host; steps = c.push.new.self })
    (c.len-count.ensures ∙ c.self.inside.scripts.ok.0) c.if-count-gt0.true c.index_mut-script.ensures.value
    (ap (λ (steps : List Step). record c.index_mut-script.result.now { steps = steps }) c.in_ok-push.ensures.ok))
