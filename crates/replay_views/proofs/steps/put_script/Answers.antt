use Rattle.replay_views.specs.Steps.{step_text}
use Rattle.replay_views.proofs.Ranges.{range_more}
use Rattle.replay_views.proofs.steps.put_script.Goals as goal

pub loop-step-preserved : goal.loop-step-preserved
loop-step-preserved c =
    range_more (step_text c.args.form c.args.world.now c.args.player.entries.now c.args.lines.now (c.args.player.number, c.args.player.script.now)) c.loop-step.step c.len-step-end.result c.loop-step.out _ _
    c.loop-step-test.true c.in_ok-put_step.ensures c.loop-step.invariant
