use Rattle.std.proofs.Common.{arith}
use Rattle.ndb_reader.proofs.Copied.{tuples-none, tuples-next, none-open}
use Rattle.ndb_reader.proofs.copy.add_tuples.Goals as goal

pub loop-place-init : goal.loop-place-init
loop-place-init c = (omega arith, tuples-none c.args.db.now c.args.first c.args.out.now)

pub add_tuple-requires-clause-lines : goal.add_tuple-requires-clause-lines
add_tuple-requires-clause-lines c = (none-open _ c.args.out.now c.loop-place.out c.loop-place.invariant.1 c.requires.lines c.requires.pairs).0

pub add_tuple-requires-clause-pairs : goal.add_tuple-requires-clause-pairs
add_tuple-requires-clause-pairs c = (none-open _ c.args.out.now c.loop-place.out c.loop-place.invariant.1 c.requires.lines c.requires.pairs).1

pub loop-place-preserved : goal.loop-place-preserved
loop-place-preserved c = (
  omega (arith, c.loop-place.invariant.0),
  tuples-next c.args.db.now c.args.first c.loop-place.place c.tuple.result c.args.out.now c.loop-place.out c.add_tuple.new.out c.loop-place.invariant.0
      (omega (arith, c.loop-place-test.true, c.requires.within)) c.tuple.ensures c.in_ok-add_tuple.ensures c.loop-place.invariant.1,
)
