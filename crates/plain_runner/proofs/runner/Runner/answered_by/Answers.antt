use Rattle.plain_runner.proofs.Recorded.{got}
use Rattle.plain_runner.proofs.Standing.{answered_free, answered_owing}
use Rattle.plain_runner.proofs.runner.Runner.answered_by.Goals as goal

pub returns-then-is_empty : goal.returns-then-is_empty
returns-then-is_empty c = λ w s st is.
    let k = c.index-kept.result.now in
    answered_free w c.args.self.now c.args.caller c.finished.result s k c.is_empty.result st
    (got c.args.self.now.callers.items c.args.caller k c.requires c.index-kept.ensures) is c.is_empty.ensures c.if-is_empty.true
    (c.finished.ensures w s st is)

pub returns : goal.returns
returns c = λ w s st is.
    let k = c.index-kept.result.now in
    answered_owing w c.args.self.now c.args.caller s k c.is_empty.result st
    (got c.args.self.now.callers.items c.args.caller k c.requires c.index-kept.ensures) is c.is_empty.ensures c.if-is_empty.false
