use Rattle.std.proofs.Common.{arith}
use Rattle.ndb_reader.proofs.Lined.{tuple-next, tuples-end}
use Rattle.ndb_reader.proofs.writer.write_ndb.Goals as goal

pub loop-place-preserved : goal.loop-place-preserved
loop-place-preserved c =
    tuple-next c.loop-place.out c.put_tuple.new.out c.args.db.now c.loop-place.place c.tuple.result (omega (arith, c.loop-place-test.true, c.len-place-end.ensures)) c.tuple.ensures c.in_ok-put_tuple.ensures c.loop-place.invariant

pub returns : goal.returns
returns c = tuples-end c.loop-place.out c.args.db.now c.loop-place.place (omega (arith, c.loop-place-test.false, c.len-place-end.ensures)) c.loop-place.invariant
