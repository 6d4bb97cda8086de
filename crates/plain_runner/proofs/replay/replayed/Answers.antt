use Rattle.std.proofs.Common.{refl}
use Rattle.plain_runner.proofs.Following.{followed_all, followed_more, may_next}
use Rattle.plain_runner.proofs.replay.replayed.Goals as goal

pub follow-requires : goal.follow-requires
follow-requires c =
    let l = c.loop-entry in record {
      world = c.args.world.now;
      entry = c.entry-item.result;
      is = record { caller_is = refl; event_is = refl };
      follows = may_next c.args.world.now c.args.history.now c.as_slice-entry-items.result.now l.runner l.entry-index c.entry-item.result
          c.requires.legal c.requires.timed c.as_slice-entry-items.ensures c.loop-entry-test.true c.entry-item.is l.invariant;
    }

pub loop-entry-preserved : goal.loop-entry-preserved
loop-entry-preserved c =
    let l = c.loop-entry in
    followed_more c.args.world.now c.as_slice-entry-items.result.now l.runner c.follow.new.self l.entry-index c.entry-item.result c.loop-entry-test.true
    c.entry-item.is l.invariant.history_is
    (c.in_ok-follow.ensures c.args.world.now c.entry-item.result (record { caller_is = refl; event_is = refl })
    (may_next c.args.world.now c.args.history.now c.as_slice-entry-items.result.now l.runner l.entry-index c.entry-item.result c.requires.legal
    c.requires.timed c.as_slice-entry-items.ensures c.loop-entry-test.true c.entry-item.is l.invariant)).followed

pub returns : goal.returns
returns c =
    let l = c.loop-entry in
    followed_all c.args.world.now c.args.history.now c.as_slice-entry-items.result.now l.runner l.entry-index c.as_slice-entry-items.ensures
    c.loop-entry-test.false l.invariant
