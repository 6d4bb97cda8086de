use Rattle.std.proofs.Common.{ℕ, ◌+◌, map, ap, ◌∙◌, refl, arith}
use Rattle.std.proofs.lemmas.List.{length-map}
use Rattle.net_base.specs.Store.{all_pairs}
use Rattle.ndb_index.specs.Chained.{width_for, alike}
use Rattle.ndb_index.specs.Hashing.{bucket_of_pair, pair_bucket}
use Rattle.ndb_index.proofs.ByPair.{walk-none, walk-within, walk-costs, walk-next, walk-all}
use Rattle.ndb_index.proofs.pairs.spots_of.Goals as goal

pub bucket_of-requires : goal.bucket_of-requires
bucket_of-requires g c = omega (arith, c.width.ensures, c.requires.width)

pub loop-left-init : goal.loop-left-init
loop-left-init g c =
    walk-none c.args.tuples.now (width_for c.args.tuples.now) c.first-left.result c.bucket_of.result c.args.attr.now c.args.value.now c.new-spots.result.items c.args.steps.now (c.args.steps.now + alike c.args.attr.now c.args.value.now c.args.tuples.now) refl c.new-spots.ensures.items
    (c.bucket_of.ensures.value ∙ ap (λ (n : ℕ). bucket_of_pair n c.args.attr.now c.args.value.now) (c.width.ensures ∙ c.requires.width))
    (c.first-left.ensures (map (pair_bucket (width_for c.args.tuples.now)) (all_pairs c.args.tuples.now)) c.requires.are)

pub overflow_sub-count : goal.overflow_sub-count
overflow_sub-count g c =
    let within = walk-within c.args.tuples.now (width_for c.args.tuples.now) c.loop-left.left c.args.attr.now c.args.value.now c.loop-left.spots.items c.loop-left.steps (c.args.steps.now + alike c.args.attr.now c.args.value.now c.args.tuples.now) c.loop-left.invariant (omega (arith, c.loop-left-test.true)) in
    omega (arith, within, c.pair_count-count.ensures)

pub add_found-requires : goal.add_found-requires
add_found-requires g c =
    let within = walk-within c.args.tuples.now (width_for c.args.tuples.now) c.loop-left.left c.args.attr.now c.args.value.now c.loop-left.spots.items c.loop-left.steps (c.args.steps.now + alike c.args.attr.now c.args.value.now c.args.tuples.now) c.loop-left.invariant (omega (arith, c.loop-left-test.true)) in
    omega (arith, within, c.pair_count-count.ensures, c.loop-left-test.true)

pub next-left-requires-clause-within : goal.next-left-requires-clause-within
next-left-requires-clause-within g c =
    let within = walk-within c.args.tuples.now (width_for c.args.tuples.now) c.loop-left.left c.args.attr.now c.args.value.now c.loop-left.spots.items c.loop-left.steps (c.args.steps.now + alike c.args.attr.now c.args.value.now c.args.tuples.now) c.loop-left.invariant (omega (arith, c.loop-left-test.true)) in
    omega (arith, within, c.requires.are.count, length-map (all_pairs c.args.tuples.now) (pair_bucket (width_for c.args.tuples.now)))

pub returns-in_err-add_found-clause-cost : goal.returns-in_err-add_found-clause-cost
returns-in_err-add_found-clause-cost g c =
    omega (arith, c.add_found.ensures.cost, walk-costs c.args.tuples.now (width_for c.args.tuples.now) c.loop-left.left c.args.attr.now c.args.value.now c.loop-left.spots.items c.loop-left.steps (c.args.steps.now + alike c.args.attr.now c.args.value.now c.args.tuples.now) c.loop-left.invariant (omega (arith, c.loop-left-test.true)))

pub loop-left-smaller : goal.loop-left-smaller
loop-left-smaller g c =
    (walk-next c.args.tuples.now (width_for c.args.tuples.now) c.loop-left.left c.pair_count-count.result c.next-left.result c.args.attr.now c.args.value.now c.args.chains.now c.loop-left.spots.items c.add_found.new.spots.items
    c.loop-left.steps c.add_found.new.steps (c.args.steps.now + alike c.args.attr.now c.args.value.now c.args.tuples.now) c.loop-left.invariant
    (omega (arith, c.loop-left-test.true)) c.requires refl c.add_found.ensures.cost c.pair_count-count.ensures c.in_ok-add_found.ensures.noted c.next-left.ensures).1

pub loop-left-preserved : goal.loop-left-preserved
loop-left-preserved g c =
    (walk-next c.args.tuples.now (width_for c.args.tuples.now) c.loop-left.left c.pair_count-count.result c.next-left.result c.args.attr.now c.args.value.now c.args.chains.now c.loop-left.spots.items c.add_found.new.spots.items
    c.loop-left.steps c.add_found.new.steps (c.args.steps.now + alike c.args.attr.now c.args.value.now c.args.tuples.now) c.loop-left.invariant
    (omega (arith, c.loop-left-test.true)) c.requires refl c.add_found.ensures.cost c.pair_count-count.ensures c.in_ok-add_found.ensures.noted c.next-left.ensures).0

pub returns-clause-spots : goal.returns-clause-spots
returns-clause-spots g c =
    walk-all c.args.tuples.now (width_for c.args.tuples.now) c.loop-left.left c.args.attr.now c.args.value.now c.loop-left.spots.items c.loop-left.steps (c.args.steps.now + alike c.args.attr.now c.args.value.now c.args.tuples.now) c.loop-left.invariant (omega (arith, c.loop-left-test.false))

pub returns-clause-cost : goal.returns-clause-cost
returns-clause-cost g c = omega (arith, c.loop-left.invariant.looks)
