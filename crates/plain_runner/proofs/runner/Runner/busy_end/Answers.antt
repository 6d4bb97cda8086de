use Rattle.std.proofs.Common.{◌≡◌, ◌==◌, ◌&&◌, ℕ, false, length, refl, sym, ◌∙◌, arith}
use Rattle.std.proofs.lemmas.Bool.{and_left, and_right}
use Rattle.net_base.specs.Calm.{most_entries}
use Rattle.net_base.specs.Next.{by}
use Rattle.plain_runner.specs.Waiting.{could_go}
use Rattle.plain_runner.proofs.Could.{limit_told, none_told}
use Rattle.net_base.proofs.Shared.{none_more}
use Rattle.plain_runner.proofs.runner.Runner.busy_end.Goals as goal
use Rattle.plain_runner.proofs.runner.Runner.busy_end.Goals.{else-is_full-via-then-is_full+else-could, else-is_full-via-else-is_full}

pub returns-then-could : goal.returns-then-could
returns-then-could c = λ w s busy.
    limit_told w c.args.self.now c.loop-caller.caller c.is_full.result c.could.result s busy
    (omega (arith, c.loop-caller-test.true, c.len-caller-end.ensures, c.args.self.now.callers.ok.0))
    (c.is_full.ensures w s) c.if-is_full.true (c.could.ensures w s) c.if-could.true

pub loop-caller-preserved : goal.loop-caller-preserved
loop-caller-preserved c = λ w s.
    let h = c.args.self.now.history.entries in
    let n = c.loop-caller.caller in
    let none : ((length (by h n) == most_entries) && could_go w h n) ≡ false =
    elim c.else-is_full.branch [
      | else-is_full-via-then-is_full+else-could v ↦ and_right (length (by h n) == most_entries) (could_go w h n) (sym (v.could.ensures w s) ∙ v.if-could.false)
      | else-is_full-via-else-is_full v ↦ and_left (length (by h n) == most_entries) (could_go w h n) (sym (c.is_full.ensures w s) ∙ v.if-is_full.false)
    ] in
    none_more (λ (k : ℕ). (length (by h k) == most_entries) && could_go w h k) n false (c.loop-caller.invariant w s) (sym none) refl

pub returns : goal.returns
returns c = λ w s busy.
    none_told w c.args.self.now c.loop-caller.caller s busy
    (omega (arith, c.loop-caller-test.false, c.len-caller-end.ensures, c.args.self.now.callers.ok.0, s.callers_are.count)) (c.loop-caller.invariant w s)
