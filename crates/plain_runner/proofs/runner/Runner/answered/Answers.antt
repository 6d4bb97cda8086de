use Rattle.std.proofs.Common.{arith}
use Rattle.net_base.specs.Summary.{answered_steps}
use Rattle.plain_runner.proofs.Standing.{answered_all, answered_next}
use Rattle.plain_runner.proofs.runner.Runner.answered.Goals as goal

pub loop-caller-preserved : goal.loop-caller-preserved
loop-caller-preserved c =
    let w = c.args.world.now in
    let h = c.args.self.now.history.entries in (
      answered_next w h c.loop-caller.caller c.loop-caller.answered c.answered_by.result (answered_steps w h)
          (omega (arith, c.loop-caller-test.true, c.len-caller-end.ensures)) (λ s is. c.answered_by.ensures w s c.requires is) c.loop-caller.invariant.0,
      omega (arith, c.loop-caller.invariant.1, c.answered_by.type_inv),
    )

pub returns : goal.returns
returns c =
    let w = c.args.world.now in
    let h = c.args.self.now.history.entries in
    answered_all w h c.loop-caller.caller c.loop-caller.answered (answered_steps w h)
    (omega (arith, c.loop-caller-test.false, c.len-caller-end.ensures)) c.loop-caller.invariant.0
