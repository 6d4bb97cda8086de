use Rattle.std.proofs.Common.{arith}
use Rattle.history_reader.proofs.Widths.{wide_by}
use Rattle.history_reader.proofs.wide.histories_are_wide.Goals as goal

pub returns : goal.returns
returns g c = wide_by (g.E.Entries.list c.args.history.now) c.loop-stamp.stamp (omega (arith, c.loop-stamp-test.false, c.count-stamp-end.ensures)) c.loop-stamp.invariant
