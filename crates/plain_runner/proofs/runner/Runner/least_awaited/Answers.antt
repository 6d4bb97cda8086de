use Rattle.std.proofs.Common.{List, length, ap, sym, subst, ◌∙◌, ◌<◌, ◌≤◌, slice_get}
use Rattle.plain_runner.specs.declared.caller.Caller.{Caller}
use Rattle.plain_runner.proofs.Recorded.{got}
use Rattle.plain_runner.proofs.Targets.{awaited_all, awaited_next}
use Rattle.plain_runner.proofs.runner.Runner.least_awaited.Goals as goal

pub loop-caller-preserved : goal.loop-caller-preserved
loop-caller-preserved c = λ w s.
    let l = c.loop-caller in
    let items = c.deref-caller-items.ensures.value in
    awaited_next w c.args.self.now l.caller-index l.least c.earlier-least.result c.args.last c.caller-item.result s
    (ap (λ (ks : List Caller). slice_get ks l.caller-index) (sym items)
    ∙ got c.deref-caller-items.result.now l.caller-index c.caller-item.result c.loop-caller-test.true c.caller-item.is)
    (subst (λ (ks : List Caller). l.caller-index < length ks) items c.loop-caller-test.true) c.earlier-least.ensures (l.invariant w s)

pub returns : goal.returns
returns c = λ w s.
    let l = c.loop-caller in
    awaited_all w c.args.self.now l.caller-index l.least c.args.last s
    (subst (λ (ks : List Caller). length ks ≤ l.caller-index) c.deref-caller-items.ensures.value c.loop-caller-test.false) (l.invariant w s)
