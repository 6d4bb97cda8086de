use Rattle.std.proofs.Common.{arith}
use Rattle.history_reader.proofs.Widths.{calls_by}
use Rattle.history_reader.proofs.wide.waiting.Goals as goal

pub returns : goal.returns
returns c = calls_by c.args.calls.now c.loop-place.place (omega (arith, c.loop-place-test.false)) c.loop-place.invariant
