use Rattle.transcript.proofs.Runs.{lines_done, lines_next}
use Rattle.transcript.proofs.entry.put_lines.Goals as goal

pub loop-stamp-preserved : goal.loop-stamp-preserved
loop-stamp-preserved g c =
    lines_next c.loop-stamp.out c.put_line.new.out _ c.loop-stamp.stamp c.args.last (g.E.Entries.list c.args.entries.now) c.entry.result.now
    c.entry.ensures c.loop-stamp-test.true c.in_ok-put_line.ensures c.loop-stamp.invariant

pub returns : goal.returns
returns g c =
    lines_done c.loop-stamp.out _ c.loop-stamp.stamp c.args.last (g.E.Entries.list c.args.entries.now) c.loop-stamp-test.false c.loop-stamp.invariant
