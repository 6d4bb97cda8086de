use Rattle.std.proofs.Common.{sym, arith, ◌∙◌}
use Rattle.net_base.specs.Callers.{caller_count}
use Rattle.plain_runner.specs.Waiting.{could_go}
use Rattle.net_base.proofs.Shared.{none_more, none_range, some_range}
use Rattle.plain_runner.proofs.runner.Runner.goes_on.Goals as goal

pub returns-then-could : goal.returns-then-could
returns-then-could c = λ w s.
    sym (some_range (could_go w c.args.self.now.history.entries) (caller_count w) 0 c.loop-caller.caller (omega arith)
    (omega (arith, c.loop-caller-test.true, c.len-caller-end.ensures, c.args.self.now.callers.ok.0, s.callers_are.count)) (sym (c.could.ensures w s)
    ∙ c.if-could.true))

pub loop-caller-preserved : goal.loop-caller-preserved
loop-caller-preserved c = λ w s. none_more (could_go w c.args.self.now.history.entries) c.loop-caller.caller c.could.result (c.loop-caller.invariant w s)
    (c.could.ensures w s) c.if-could.false

pub returns : goal.returns
returns c = λ w s.
    sym (none_range (could_go w c.args.self.now.history.entries) (caller_count w) 0 (λ k lt.
    c.loop-caller.invariant w s k (omega (arith, lt, c.loop-caller-test.false, c.len-caller-end.ensures, c.args.self.now.callers.ok.0, s.callers_are.count))))
