use Rattle.std.proofs.Common.{arith}
use Rattle.ndb_index.proofs.Lined.{flat-next}
use Rattle.ndb_index.proofs.found.tuple_line.Goals as goal

pub loop-number-preserved : goal.loop-number-preserved
loop-number-preserved c =
    flat-next c.args.tuple.now c.loop-number.number c.line.result c.loop-number.out c.put_line.new.out (omega (arith, c.loop-number-test.true, c.len-number-end.ensures)) c.line.ensures c.in_ok-put_line.ensures c.loop-number.invariant
