use Rattle.std.proofs.Common.{arith}
use Rattle.ndb_reader.proofs.Copied.{pairs-none, pairs-next, pairs-all}
use Rattle.ndb_reader.proofs.copy.add_line.Goals as goal

pub loop-number-init : goal.loop-number-init
loop-number-init c = pairs-none c.args.line.now c.args.out.now

pub loop-number-preserved : goal.loop-number-preserved
loop-number-preserved c =
    pairs-next c.args.line.now c.loop-number.number c.pair-pair.result c.attr.result.now c.value.result.now c.args.out.now c.loop-number.out c.push.new.self
    (omega (arith, c.loop-number-test.true, c.len-number-end.ensures)) (c.pair-pair.ensures c.pair-pair.result) c.attr.ensures c.value.ensures c.in_ok-push.ensures.ok c.loop-number.invariant

pub returns : goal.returns
returns c =
    pairs-all c.args.line.now c.loop-number.number c.args.out.now c.loop-number.out c.end_line.new.self (omega (arith, c.loop-number-test.false, c.len-number-end.ensures)) c.loop-number.invariant c.in_ok-end_line.ensures.ok
