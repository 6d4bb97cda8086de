use Rattle.std.proofs.Common.{◌+◌, ◌≡◌, arith}
use Rattle.net_base.specs.Callers.{clock_number}
use Rattle.plain_runner.proofs.Could.{busy_so, done_told, full_told, other_told, stopped_told}
use Rattle.plain_runner.proofs.runner.Runner.end.Goals as goal

pub returns-then-goes_on : goal.returns-then-goes_on
returns-then-goes_on c =
    let w = c.args.world.now in
    c.busy_end.ensures w c.requires (busy_so w c.args.self.now c.goes_on.result (c.goes_on.ensures w c.requires) c.if-goes_on.true)

pub returns-then-not-is_unfinished : goal.returns-then-not-is_unfinished
returns-then-not-is_unfinished c =
    let w = c.args.world.now in
    done_told w c.args.self.now c.goes_on.result c.is_unfinished.result
    (c.goes_on.ensures w c.requires) c.if-goes_on.false c.is_unfinished.ensures c.if-not-is_unfinished.true

pub returns-then-self-world : goal.returns-then-self-world
returns-then-self-world c =
    let w = c.args.world.now in
    stopped_told w c.args.self.now c.goes_on.result c.is_unfinished.result c.requires
    (c.goes_on.ensures w c.requires) c.if-goes_on.false c.is_unfinished.ensures c.if-not-is_unfinished.false c.if-self-world.true

pub returns-then-is_full : goal.returns-then-is_full
returns-then-is_full c =
    let w = c.args.world.now in
    let at : c.len.result + c.len-2.result ≡ clock_number w = omega (arith, c.len.ensures, c.len-2.ensures) in
    full_told w c.args.self.now c.goes_on.result c.is_unfinished.result c.is_full.result (c.len.result + c.len-2.result) c.requires
    (c.goes_on.ensures w c.requires) c.if-goes_on.false c.is_unfinished.ensures c.if-not-is_unfinished.false c.if-self-world.false at
    (c.is_full.ensures w c.requires) c.if-is_full.true

pub returns : goal.returns
returns c =
    let w = c.args.world.now in
    let at : c.len.result + c.len-2.result ≡ clock_number w = omega (arith, c.len.ensures, c.len-2.ensures) in
    other_told w c.args.self.now c.goes_on.result c.is_unfinished.result c.is_full.result (c.len.result + c.len-2.result) c.requires
    (c.goes_on.ensures w c.requires) c.if-goes_on.false c.is_unfinished.ensures c.if-not-is_unfinished.false c.if-self-world.false at
    (c.is_full.ensures w c.requires) c.if-is_full.false
