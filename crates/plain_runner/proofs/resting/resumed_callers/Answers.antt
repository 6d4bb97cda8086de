use Rattle.std.proofs.Common.{arith}
use Rattle.plain_runner.proofs.Rested.{all_resumed, next_has, none_resumed, one_resumed}
use Rattle.plain_runner.proofs.resting.resumed_callers.Goals as goal

pub loop-caller-init : goal.loop-caller-init
loop-caller-init c =
    none_resumed c.args.world.now c.args.resting.items _ c.in_ok-callers.callers.items _ c.in_ok-callers.ensures.items c.into_iter-caller-iterator.ensures.into_iter_gives.0
    (omega (arith, c.into_iter-caller-iterator.ensures.into_iter_gives.1, c.args.resting.ok.0))

pub resume-requires : goal.resume-requires
resume-requires c =
    let l = c.loop-caller in
    next_has c.args.world.now c.args.resting.items l.callers.items _ _ _ _ c.in-Some.caller l.invariant c.in-Some.ensures.steps.0 c.in-Some.ensures.steps.1 c.len-number.result (omega (arith, c.len-number.ensures, l.callers.ok.0)) c.requires

pub loop-caller-preserved : goal.loop-caller-preserved
loop-caller-preserved c =
    let l = c.loop-caller in
    one_resumed c.args.world.now c.args.resting.items l.callers.items _ _ _ _ c.in-Some.caller l.invariant c.in-Some.ensures.steps.0 c.in-Some.ensures.steps.1
    c.len-number.result c.in_ok-resume.field-0 c.push.new.self.items (omega (arith, c.len-number.ensures, l.callers.ok.0)) c.in_ok-resume.ensures c.in_ok-push.ensures.items

pub returns : goal.returns
returns c = all_resumed c.args.world.now c.args.resting.items _ c.loop-caller.callers.items _ c.loop-caller.invariant c.in-None.ensures.steps.0
