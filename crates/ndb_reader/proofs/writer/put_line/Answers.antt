use Rattle.std.proofs.Common.{arith}
use Rattle.ndb_reader.proofs.Lined.{put-next}
use Rattle.ndb_reader.proofs.writer.put_line.Goals as goal

pub loop-number-preserved : goal.loop-number-preserved
loop-number-preserved c =
    put-next c.args.out.now c.args.line.now c.loop-number.number c.pair.result c.loop-number.out c.put_next.new.out (omega (arith, c.loop-number-test.true, c.len-number-end.ensures)) (c.pair.ensures c.pair.result) c.in_ok-put_next.ensures c.loop-number.invariant
