use Rattle.std.proofs.Common.{ℕ, ap, sym, ◌∙◌}
use Rattle.std.proofs.lemmas.Bool.{true≢false}
use Rattle.std.proofs.lemmas.Result.{IfOk-weaker}
use Rattle.net_model.specs.Answers.{all_kept, rule_broken}
use Rattle.netsh.proofs.Judging.{all_hold, summary_breaks}
use Rattle.netsh.proofs.judgement.judge_summary.Goals as goal

pub returns-then-own : goal.returns-then-own
returns-then-own c =
    IfOk-weaker _ _ _
    (λ answer is. all_hold c.args.world.now c.args.history.now c.args.told.now answer c.requires.legal c.requires.timed (c.in_ok-own.ensures.0 c.if-own.true)
    (is ∙ ap all_kept c.len-entries.ensures))
    c.all_kept.ensures

pub returns : goal.returns
returns c =
    IfOk-weaker _ _ _
    (λ answer is. summary_breaks c.args.world.now c.args.history.now c.args.told.now answer c.requires.legal c.requires.timed
    (λ own. true≢false (sym (c.in_ok-own.ensures.1 own) ∙ c.if-own.false)) (is ∙ ap (λ (k : ℕ). rule_broken k 9) c.len-entries.ensures))
    c.rule_broken.ensures
