use Rattle.std.proofs.Common.{refl}
use Rattle.plain_runner.proofs.Shared.{followed_all, may_next}
use Rattle.expected_entry.proofs.Playing.{further}
use Rattle.expected_entry.proofs.expecting.play.Goals as goal

pub follow-requires : goal.follow-requires
follow-requires c =
    let l = c.loop-entry in record {
      world = c.args.world.now;
      entry = c.entry-item.result;
      is = record { caller_is = refl; event_is = refl };
      follows = may_next c.args.world.now c.args.past.now c.args.past.now l.runner l.entry-index c.entry-item.result c.requires.legal c.requires.timed refl
          c.loop-entry-test.true c.entry-item.is l.invariant;
    }

pub loop-entry-preserved : goal.loop-entry-preserved
loop-entry-preserved c =
    let l = c.loop-entry in
    further c.args.world.now c.args.past.now l.runner c.follow.new.self l.entry-index c.entry-item.result c.loop-entry-test.true c.entry-item.is l.invariant
    (c.in_ok-follow.ensures c.args.world.now c.entry-item.result (record { caller_is = refl; event_is = refl })
    (may_next c.args.world.now c.args.past.now c.args.past.now l.runner l.entry-index c.entry-item.result c.requires.legal c.requires.timed refl
    c.loop-entry-test.true c.entry-item.is l.invariant)).followed
