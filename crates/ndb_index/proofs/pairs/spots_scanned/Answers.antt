use Rattle.std.proofs.Common.{[], arith}
use Rattle.net_base.specs.Store.{pair_with}
use Rattle.net_base.specs.Spots.{spot_at}
use Rattle.ndb_index.proofs.Notes.{scans-none, scans-next, scans-all}
use Rattle.ndb_index.proofs.pairs.spots_scanned.Goals as goal

pub loop-number-init : goal.loop-number-init
loop-number-init g c = (scans-none c.args.tuples.now c.args.attr.now c.args.value.now c.new-spots.result.items c.new-spots.ensures.items, omega arith)

pub loop-number-preserved : goal.loop-number-preserved
loop-number-preserved g c = (
  scans-next c.args.tuples.now c.loop-number.number c.args.attr.now c.args.value.now c.loop-number.spots.items c.add_found.new.spots.items (pair_with [] []) (spot_at 0 0)
      (omega (arith, c.loop-number-test.true, c.pair_count-number-end.ensures)) c.in_ok-add_found.ensures.noted c.loop-number.invariant.0,
  omega (arith, c.loop-number.invariant.1, c.add_found.ensures.cost),
)

pub returns-clause-spots : goal.returns-clause-spots
returns-clause-spots g c = scans-all c.args.tuples.now c.loop-number.number c.args.attr.now c.args.value.now c.loop-number.spots.items (omega (arith, c.loop-number-test.false, c.pair_count-number-end.ensures)) c.loop-number.invariant.0
