use Rattle.plain_runner.proofs.Could.{moves_busy, moves_finished, moves_told}
use Rattle.plain_runner.proofs.runner.Runner.is_movable.Goals as goal

pub returns-then-goes_on : goal.returns-then-goes_on
returns-then-goes_on c =
    let w = c.args.world.now in
    moves_busy w c.args.self.now c.goes_on.result (c.goes_on.ensures w c.requires) c.if-goes_on.true

pub returns-then-not-is_unfinished : goal.returns-then-not-is_unfinished
returns-then-not-is_unfinished c = moves_finished c.args.world.now c.args.self.now c.is_unfinished.result c.is_unfinished.ensures c.if-not-is_unfinished.true

pub returns : goal.returns
returns c =
    let w = c.args.world.now in
    moves_told w c.args.self.now c.goes_on.result c.is_unfinished.result c.requires (c.goes_on.ensures w c.requires) c.if-goes_on.false
    c.is_unfinished.ensures c.if-not-is_unfinished.false
