use Rattle.std.proofs.Common.{sym}
use Rattle.live_run.proofs.Hearing.{hears_entry, on_ok}
use Rattle.live_run.proofs.round.hear.Goals as goal

pub returns-clause-heard : goal.returns-clause-heard
returns-clause-heard g c =
    on_ok c.report.result
    (hears_entry c.args.runner.now c.args.caller c.len.result c.args.entry c.args.history.now c.push.new.self c.args.currents.now.items c.note.new.currents.items c.report.new.currents.items _ _
    c.len.ensures c.in_ok-note.ensures c.in_ok-push.ensures.ok) c.report.ensures
