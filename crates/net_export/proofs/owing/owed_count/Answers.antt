use Rattle.std.proofs.Common.{ℕ, ◌+◌, ◌-◌, drop, sym, ap, ◌∙◌, arith}
use Rattle.net_export.specs.Counted.{count_after}
use Rattle.net_export.proofs.Counting.{counted_own, counted_other}
use Rattle.net_export.proofs.owing.owed_count.Goals as goal
use Rattle.net_export.proofs.owing.owed_count.Goals.{then-entry-caller, else-entry-caller}

-- each entry brings few
pub overflow_add-owed : goal.overflow_add-owed
overflow_add-owed g c = omega (arith, c.loop-stamp.invariant.1, c.loop-stamp-test.true, c.saturating_sub.ensures, c.brought.ensures.few)

-- an own entry does the first event that is owed and brings its own; another one changes nothing
pub loop-stamp-preserved : goal.loop-stamp-preserved
loop-stamp-preserved g c =
    let list = g.E.Entries.list c.args.history.now in
    elim c.if-entry-caller.branch [
      | then-entry-caller w ↦ (
        λ world ways. ap (λ (owed : ℕ). count_after world c.args.caller owed (drop (c.loop-stamp.stamp + 1) list))
            (w.owed-is ∙ ap (λ (n : ℕ). n + w.brought.result) w.saturating_sub.ensures
            ∙ ap (λ (n : ℕ). (c.loop-stamp.owed - 1) + n) (w.brought.ensures.counted world ways))
            ∙ sym (counted_own world c.args.caller c.loop-stamp.owed list c.loop-stamp.stamp c.entry-entry.result.now c.entry-entry.ensures w.if-entry-caller.true)
            ∙ c.loop-stamp.invariant.0 world ways,
        omega (arith, w.owed-is, w.saturating_sub.ensures, w.brought.ensures.few, c.loop-stamp.invariant.1),
      )
      | else-entry-caller w ↦ (
        λ world ways. ap (λ (owed : ℕ). count_after world c.args.caller owed (drop (c.loop-stamp.stamp + 1) list)) w.owed-is
            ∙ sym (counted_other world c.args.caller c.loop-stamp.owed list c.loop-stamp.stamp c.entry-entry.result.now c.entry-entry.ensures w.if-entry-caller.false)
            ∙ c.loop-stamp.invariant.0 world ways,
        omega (arith, w.owed-is, c.loop-stamp.invariant.1),
      )
    ]
