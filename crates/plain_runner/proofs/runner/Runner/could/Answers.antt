use Rattle.std.proofs.Common.{not, ap, ◌∙◌}
use Rattle.plain_runner.proofs.Could.{could_free, could_owing}
use Rattle.plain_runner.proofs.Recorded.{got}
use Rattle.plain_runner.proofs.runner.Runner.could.Goals as goal

pub returns-then-not-is_empty : goal.returns-then-not-is_empty
returns-then-not-is_empty c = λ w s.
    let k = c.index.result.now in
    ap not c.if-not-is_empty.true
    ∙ could_owing w c.args.self.now c.args.caller k c.is_empty.result s
    (got c.args.self.now.callers.items c.args.caller k c.requires c.index.ensures) c.is_empty.ensures c.if-not-is_empty.true

pub returns-else-not-is_empty : goal.returns-else-not-is_empty
returns-else-not-is_empty c = λ w s.
    let k = c.index.result.now in
    could_free w c.args.self.now c.args.caller k c.is_empty.result c.may_turn.result s
    (got c.args.self.now.callers.items c.args.caller k c.requires c.index.ensures) c.is_empty.ensures c.if-not-is_empty.false (c.may_turn.ensures w s)
