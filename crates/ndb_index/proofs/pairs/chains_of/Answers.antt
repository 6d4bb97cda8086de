use Rattle.std.proofs.Common.{ℕ, ap, arith, ◌+◌, ◌/◌}
use Rattle.ndb_index.proofs.ByPair.{chaining-none, chaining-next, chaining-all}
use Rattle.ndb_index.proofs.pairs.chains_of.Goals as goal

pub loop-back-init : goal.loop-back-init
loop-back-init c = chaining-none c.args.db.now (c.pair_count-count.result / 4 + 1) c.in_ok-chains.chains c.in_ok-chains.ensures.width c.in_ok-chains.ensures.chains

pub loop-back-preserved : goal.loop-back-preserved
loop-back-preserved c =
    chaining-next c.args.db.now (c.pair_count-count.result / 4 + 1) c.pair_count-count.result c.loop-back.back c.bucket_of.result c.pair-pair.result c.attr.result.now c.value.result.now c.loop-back.chains c.push.new.self c.loop-back.invariant c.pair_count-count.ensures
    (omega (arith, c.loop-back-test.true)) c.pair-pair.ensures c.attr.ensures c.value.ensures c.bucket_of.ensures.value c.in_ok-push.ensures.width c.in_ok-push.ensures.chains

pub returns : goal.returns
returns c = chaining-all c.args.db.now (c.pair_count-count.result / 4 + 1) c.pair_count-count.result c.loop-back.back c.loop-back.chains c.loop-back.invariant (ap (λ (n : ℕ). n / 4 + 1) c.pair_count-count.ensures) c.pair_count-count.ensures (omega (arith, c.loop-back-test.false))
