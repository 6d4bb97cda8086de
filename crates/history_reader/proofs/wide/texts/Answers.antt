use Rattle.std.proofs.Common.{arith}
use Rattle.history_reader.proofs.Widths.{lines_by}
use Rattle.history_reader.proofs.wide.texts.Goals as goal

pub returns : goal.returns
returns c = lines_by c.args.lines.now c.loop-place.place (omega (arith, c.loop-place-test.false)) c.loop-place.invariant
