use Rattle.std.proofs.Common.{arith}
use Rattle.ndb_reader.proofs.Lined.{pair-next, pairs-end}
use Rattle.ndb_reader.proofs.writer.put_more.Goals as goal

pub loop-number-preserved : goal.loop-number-preserved
loop-number-preserved c =
    pair-next c.args.out.now c.loop-number.out c.append.new.self c.put_pair.new.out c.args.line.now c.loop-number.number c.pair.result (omega (arith, c.loop-number-test.true, c.len-number-end.ensures)) (c.pair.ensures c.pair.result)
    c.in_ok-append.ensures.ok c.in_ok-put_pair.ensures c.loop-number.invariant

pub returns : goal.returns
returns c = pairs-end c.args.out.now c.loop-number.out c.args.line.now c.loop-number.number (omega (arith, c.loop-number-test.false, c.len-number-end.ensures)) c.loop-number.invariant
