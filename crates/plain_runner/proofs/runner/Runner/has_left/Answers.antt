use Rattle.std.proofs.Common.{refl}
use Rattle.plain_runner.proofs.Could.{left_so, no_courier}
use Rattle.plain_runner.proofs.Recorded.{got}
use Rattle.plain_runner.proofs.runner.Runner.has_left.Goals as goal

pub returns-in-Script : goal.returns-in-Script
returns-in-Script c = λ w s st is.
    let k = c.index.result.now in
    left_so w c.args.self.now c.args.caller c.is_unfinished.result k s c.in-Script.script c.in-Script.player st
    (got c.args.self.now.callers.items c.args.caller k c.requires c.index.ensures) is c.in-Script.is c.is_unfinished.ensures

pub returns-in-Courier : goal.returns-in-Courier
returns-in-Courier c = λ w s st is.
    let k = c.index.result.now in
    absurd (no_courier w c.args.self.now c.args.caller k s _ st
    (got c.args.self.now.callers.items c.args.caller k c.requires c.index.ensures) is c.in-Courier.is refl)

pub returns-in-Clock : goal.returns-in-Clock
returns-in-Clock c = λ w s st is.
    let k = c.index.result.now in
    absurd (no_courier w c.args.self.now c.args.caller k s _ st
    (got c.args.self.now.callers.items c.args.caller k c.requires c.index.ensures) is c.in-Clock.is refl)
