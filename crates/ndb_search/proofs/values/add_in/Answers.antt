use Rattle.std.proofs.Common.{arith}
use Rattle.ndb_search.proofs.Behind.{in-next}
use Rattle.ndb_search.proofs.values.add_in.Goals as goal

pub loop-number-preserved : goal.loop-number-preserved
loop-number-preserved c =
    in-next c.args.attr.now c.args.tuple.now c.loop-number.number c.line.result c.args.values.now c.loop-number.values c.add_on.new.values (omega (arith, c.loop-number-test.true, c.len-number-end.ensures)) c.line.ensures c.in_ok-add_on.ensures c.loop-number.invariant
