use Rattle.std.proofs.Common.{◌++◌, sym, ap, ◌∙◌, arith, append-nil, List}
use Rattle.std.proofs.lemmas.List.{take_all}
use Rattle.net_base.specs.declared.ndb.spot.Spot.{Spot}
use Rattle.ndb_index.specs.Near.{spot_tuples, numbers_of}
use Rattle.ndb_index.proofs.Nearby.{numbers_more}
use Rattle.ndb_index.proofs.index.Index.add_addresses.Goals as goal

pub loop-spot-init : goal.loop-spot-init
loop-spot-init g c = (sym (append-nil c.args.ips.now.items), omega arith)

pub at-tuple-requires : goal.at-tuple-requires
at-tuple-requires g c = c.requires c.loop-spot.spot-index _ (omega arith)

pub loop-spot-preserved : goal.loop-spot-preserved
loop-spot-preserved g c = (
  numbers_more c.args.self.now c.args.mine.now c.loop-spot.spot-index _ c.at-tuple.result c.args.ips.now.items c.loop-spot.ips.items _
      (omega arith) c.at-tuple.ensures.tuple c.loop-spot.invariant.0 c.in_ok-add_in.ensures,
  omega (arith, c.loop-spot.invariant.1, c.at-tuple.ensures.cost),
)

pub returns-clause-ips : goal.returns-clause-ips
returns-clause-ips g c =
    c.loop-spot.invariant.0
    ∙ ap (λ (spots : List Spot). c.args.ips.now.items ++ numbers_of (spot_tuples c.args.self.now spots)) (take_all c.loop-spot.spot-index c.args.mine.now (omega arith))
