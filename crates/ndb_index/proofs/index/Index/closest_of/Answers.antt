use Rattle.std.proofs.Common.{◌++◌, refl, sym, ap, ◌∙◌, arith, append-nil, List}
use Rattle.std.proofs.lemmas.List.{take_all}
use Rattle.std.proofs.lemmas.Bool.Decides.{nat_tests}
use Rattle.ndb_search.specs.Closest.{first_filled}
use Rattle.net_base.specs.declared.ndb.spot.Spot.{Spot}
use Rattle.ndb_index.specs.Near.{spot_tuples, numbers_of}
use Rattle.ndb_index.proofs.Nearby.{spot_first, spot_none, numbers_more}
use Rattle.ndb_index.proofs.index.Index.closest_of.Goals as goal

pub loop-spot-init : goal.loop-spot-init
loop-spot-init g c = (refl, sym (append-nil c.args.ips.now.items), omega arith)

pub at-tuple-requires : goal.at-tuple-requires
at-tuple-requires g c = c.requires c.loop-spot.spot-index _ (omega arith)

pub returns-then-len-ne0-clause-values : goal.returns-then-len-ne0-clause-values
returns-then-len-ne0-clause-values g c =
    spot_first c.args.attr.now c.args.self.now c.args.mine.now c.loop-spot.spot-index _ c.at-tuple.result c.in_ok-values.values
    (omega arith) c.at-tuple.ensures.tuple c.in_ok-values.ensures (grind (arith, nat_tests)) c.loop-spot.invariant.0

pub loop-spot-preserved : goal.loop-spot-preserved
loop-spot-preserved g c = (
  spot_none c.args.attr.now c.args.self.now c.args.mine.now c.loop-spot.spot-index _ c.at-tuple.result c.in_ok-values.values
      (omega arith) c.at-tuple.ensures.tuple c.in_ok-values.ensures (grind (arith, nat_tests)) c.loop-spot.invariant.0,
  numbers_more c.args.self.now c.args.mine.now c.loop-spot.spot-index _ c.at-tuple.result c.args.ips.now.items c.loop-spot.ips.items _
      (omega arith) c.at-tuple.ensures.tuple c.loop-spot.invariant.1 c.in_ok-add_in.ensures,
  omega (arith, c.loop-spot.invariant.2, c.at-tuple.ensures.cost),
)

pub returns-clause-values : goal.returns-clause-values
returns-clause-values g c =
    sym (ap (λ (spots : List Spot). first_filled c.args.attr.now (spot_tuples c.args.self.now spots)) (sym (take_all c.loop-spot.spot-index c.args.mine.now (omega arith)))
    ∙ c.loop-spot.invariant.0)

pub returns-clause-ips : goal.returns-clause-ips
returns-clause-ips g c = λ none.
    c.loop-spot.invariant.1
    ∙ ap (λ (spots : List Spot). c.args.ips.now.items ++ numbers_of (spot_tuples c.args.self.now spots)) (take_all c.loop-spot.spot-index c.args.mine.now (omega arith))
