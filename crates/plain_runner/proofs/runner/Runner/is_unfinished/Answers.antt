use Rattle.std.proofs.Common.{arith}
use Rattle.net_base.specs.Calm.{unfinished}
use Rattle.net_base.specs.Net.{after}
use Rattle.plain_runner.proofs.Could.{left_here, left_next, left_none}
use Rattle.plain_runner.proofs.runner.Runner.is_unfinished.Goals as goal

pub returns-then-has_left : goal.returns-then-has_left
returns-then-has_left c =
    let w = c.args.world.now in
    let h = c.args.self.now.history.entries in
    left_here w h c.loop-caller.caller c.has_left.result (unfinished w (after w h)) (omega (arith, c.loop-caller-test.true, c.len-caller-end.ensures))
    (λ s is. c.has_left.ensures w s c.requires is) c.loop-caller.invariant c.if-has_left.true

pub loop-caller-preserved : goal.loop-caller-preserved
loop-caller-preserved c =
    let w = c.args.world.now in
    let h = c.args.self.now.history.entries in
    left_next w h c.loop-caller.caller c.has_left.result (unfinished w (after w h)) (omega (arith, c.loop-caller-test.true, c.len-caller-end.ensures))
    (λ s is. c.has_left.ensures w s c.requires is) c.loop-caller.invariant c.if-has_left.false

pub returns : goal.returns
returns c =
    let w = c.args.world.now in
    let h = c.args.self.now.history.entries in
    left_none w h c.loop-caller.caller (unfinished w (after w h)) (omega (arith, c.loop-caller-test.false, c.len-caller-end.ensures)) c.loop-caller.invariant
