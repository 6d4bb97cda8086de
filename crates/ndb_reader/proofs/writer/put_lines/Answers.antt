use Rattle.std.proofs.Common.{arith}
use Rattle.ndb_reader.proofs.Lined.{row-next, rows-end}
use Rattle.ndb_reader.proofs.writer.put_lines.Goals as goal

pub loop-number-preserved : goal.loop-number-preserved
loop-number-preserved c =
    row-next c.args.out.now c.loop-number.out c.append.new.self c.put_pairs.new.out c.append-in-loop-number.new.self c.args.tuple.now c.loop-number.number c.line.result (omega (arith, c.loop-number-test.true, c.len-number-end.ensures)) c.line.ensures
    c.in_ok-append.ensures.ok c.in_ok-put_pairs.ensures c.in_ok-append-2.ensures.ok c.loop-number.invariant

pub returns : goal.returns
returns c = rows-end c.args.out.now c.loop-number.out c.args.tuple.now c.loop-number.number (omega (arith, c.loop-number-test.false, c.len-number-end.ensures)) c.loop-number.invariant
