use Rattle.std.proofs.Common.{true, cond, ap, ◌∙◌}
use Rattle.std.specs.List.{list_any}
use Rattle.net_chart.specs.declared.sight.Sight.{Sight}
use Rattle.net_chart.specs.Frames.{same_frame}
use Rattle.net_chart.specs.Things.{is_copy}
use Rattle.net_chart.proofs.Steps.{copies_all, copies_more}
use Rattle.net_chart.proofs.past.arrivals_in.Goals as goal

pub loop-entry-preserved : goal.loop-entry-preserved
loop-entry-preserved c =
    let l = c.loop-entry in
    copies_more c.args.entries.now l.entry-index c.entry-item.result l.came.keys c.note_copy.new.came.keys c.loop-entry-test.true c.entry-item.is
    (λ key. c.in_ok-note_copy.ensures key ∙ ap (λ (s : Sight). cond (is_copy key s) true (list_any (same_frame key) l.came.keys)) c.sight_of.ensures)
    l.invariant

pub returns : goal.returns
returns c = let l = c.loop-entry in copies_all c.args.entries.now l.entry-index l.came.keys c.loop-entry-test.false l.invariant
