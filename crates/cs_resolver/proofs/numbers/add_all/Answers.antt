use Rattle.std.proofs.Common.{List, ◌++◌, sym, ap, ◌∙◌, arith, append-nil}
use Rattle.std.specs.Prelude.{flat_map}
use Rattle.std.proofs.lemmas.List.{take_all}
use Rattle.net_base.specs.declared.ndb.spot.Spot.{Spot}
use Rattle.cs_resolver.specs.Probes.{numbers_at}
use Rattle.cs_resolver.proofs.AtSpots.{spot_more}
use Rattle.cs_resolver.proofs.numbers.add_all.Goals as goal

pub loop-spot-init : goal.loop-spot-init
loop-spot-init g c = (sym (append-nil c.args.numbers.now.items), omega arith)

pub add_at-requires : goal.add_at-requires
add_at-requires g c = c.requires c.loop-spot.spot-index _ (omega arith)

pub loop-spot-preserved : goal.loop-spot-preserved
loop-spot-preserved g c = (
  spot_more c.args.kind c.args.index.now c.args.spots.now c.loop-spot.spot-index _ c.args.numbers.now.items c.loop-spot.numbers.items _ (omega arith) c.loop-spot.invariant.0 c.in_ok-add_at.ensures.numbers,
  omega (arith, c.loop-spot.invariant.1, c.in_ok-add_at.ensures.cost),
)

pub returns-clause-numbers : goal.returns-clause-numbers
returns-clause-numbers g c =
    c.loop-spot.invariant.0
    ∙ ap (λ (spots : List Spot). c.args.numbers.now.items ++ flat_map (numbers_at c.args.index.now c.args.kind) spots) (take_all c.loop-spot.spot-index c.args.spots.now (omega arith))
