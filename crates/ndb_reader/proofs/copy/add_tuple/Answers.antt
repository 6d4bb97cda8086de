use Rattle.std.proofs.Common.{arith}
use Rattle.ndb_reader.proofs.Copied.{lines-none, lines-next, lines-all}
use Rattle.ndb_reader.proofs.copy.add_tuple.Goals as goal

pub loop-number-init : goal.loop-number-init
loop-number-init c = lines-none c.args.tuple.now c.args.out.now c.requires.lines c.requires.pairs

pub loop-number-preserved : goal.loop-number-preserved
loop-number-preserved c =
    lines-next c.args.tuple.now c.loop-number.number c.line.result c.args.out.now c.loop-number.out c.add_line.new.out
    (omega (arith, c.loop-number-test.true, c.len-number-end.ensures)) c.line.ensures c.in_ok-add_line.ensures c.loop-number.invariant

pub returns : goal.returns
returns c =
    lines-all c.args.tuple.now c.loop-number.number c.args.out.now c.loop-number.out c.end_tuple.new.self (omega (arith, c.loop-number-test.false, c.len-number-end.ensures)) c.requires.lines c.requires.pairs c.loop-number.invariant c.in_ok-end_tuple.ensures.ok
