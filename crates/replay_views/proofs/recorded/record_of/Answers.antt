use Rattle.std.proofs.Common.{refl}
use Rattle.replay_views.proofs.Entries.{has_caller, may_come, one_further}
use Rattle.replay_views.proofs.Latests.{latest_more}
use Rattle.replay_views.proofs.recorded.record_of.Goals as goal
use Rattle.plain_runner.proofs.Shared.{got}

pub note_entry-requires : goal.note_entry-requires
note_entry-requires c =
    let l = c.loop-stamp in
    has_caller c.args.world.now l.runner c.index-history-stamp.result
    (may_come c.args.world.now c.args.history.now l.runner l.stamp c.index-history-stamp.result c.requires.legal c.requires.timed c.loop-stamp-test.true
    c.index-history-stamp.is l.invariant.followed)

pub follow-requires : goal.follow-requires
follow-requires c =
    let l = c.loop-stamp in record {
      world = c.args.world.now;
      entry = c.index-history-stamp.result;
      is = record { caller_is = refl; event_is = refl };
      follows = may_come c.args.world.now c.args.history.now l.runner l.stamp c.index-history-stamp.result
          c.requires.legal c.requires.timed c.loop-stamp-test.true c.index-history-stamp.is l.invariant.followed;
    }

pub loop-stamp-preserved : goal.loop-stamp-preserved
loop-stamp-preserved c =
    let w = c.args.world.now in
    let h = c.args.history.now in
    let l = c.loop-stamp in
    let x = c.index-history-stamp.result in
    let may = may_come w h l.runner l.stamp x c.requires.legal c.requires.timed c.loop-stamp-test.true c.index-history-stamp.is l.invariant.followed in record {
      followed = one_further w h l.runner c.follow.new.self l.stamp x c.loop-stamp-test.true c.index-history-stamp.is l.invariant.followed
          (c.in_ok-follow.ensures w x (record { caller_is = refl; event_is = refl }) may).followed;
      latest = latest_more w h l.runner.history.entries l.stamp x l.latest.entries c.note_entry.new.latest.entries l.invariant.followed.history_is
          (got h l.stamp x c.loop-stamp-test.true c.index-history-stamp.is) l.invariant.latest
          (λ d s n at. c.in_ok-note_entry.ensures w d s n l.invariant.followed.tracks at);
    }
