use Rattle.std.proofs.Common.{refl, ◌∙◌}
use Rattle.plain_runner.proofs.Shared.{may_next}
use Rattle.replay_views.proofs.Following.{captured_all, captured_more, captured_none}
use Rattle.replay_views.proofs.capture.capture_of.Goals as goal

pub put_frame-requires : goal.put_frame-requires
put_frame-requires c =
    let l = c.loop-entry in (
      c.args.world.now,
      may_next c.args.world.now c.args.history.now c.as_slice-entry-items.result.now l.runner l.entry-index c.entry-item.result c.requires.legal
          c.requires.timed
          c.as_slice-entry-items.ensures c.loop-entry-test.true c.entry-item.is l.invariant.followed,
    )

pub follow-requires : goal.follow-requires
follow-requires c =
    let l = c.loop-entry in record {
      world = c.args.world.now;
      entry = c.entry-item.result;
      is = record { caller_is = refl; event_is = refl };
      follows = may_next c.args.world.now c.args.history.now c.as_slice-entry-items.result.now l.runner l.entry-index c.entry-item.result
          c.requires.legal c.requires.timed
          c.as_slice-entry-items.ensures c.loop-entry-test.true c.entry-item.is l.invariant.followed;
    }

pub loop-entry-init : goal.loop-entry-init
loop-entry-init c =
    captured_none c.args.world.now c.args.medium _ _
    (record { tracks = c.in_ok-runner.ensures.tracks; history_is = c.in_ok-runner.ensures.empty }) (c.in_ok-out.ensures ∙ c.file_header.ensures)

pub loop-entry-preserved : goal.loop-entry-preserved
loop-entry-preserved c =
    let l = c.loop-entry in
    let next = may_next c.args.world.now c.args.history.now c.as_slice-entry-items.result.now l.runner l.entry-index c.entry-item.result
    c.requires.legal c.requires.timed
    c.as_slice-entry-items.ensures c.loop-entry-test.true c.entry-item.is l.invariant.followed in
    captured_more c.args.world.now c.args.medium c.as_slice-entry-items.result.now l.runner c.follow.new.self l.entry-index c.entry-item.result l.out
    _ c.loop-entry-test.true
    c.entry-item.is l.invariant (c.in_ok-put_frame.ensures c.args.world.now next)
    (c.in_ok-follow.ensures c.args.world.now c.entry-item.result (record { caller_is = refl; event_is = refl }) next).followed

pub returns-clause-bytes : goal.returns-clause-bytes
returns-clause-bytes c =
    let l = c.loop-entry in
    (captured_all c.args.world.now c.args.medium c.args.history.now c.as_slice-entry-items.result.now l.runner l.entry-index l.out c.as_slice-entry-items.ensures
    c.loop-entry-test.false l.invariant).0

pub returns-clause-read : goal.returns-clause-read
returns-clause-read c =
    let l = c.loop-entry in
    (captured_all c.args.world.now c.args.medium c.args.history.now c.as_slice-entry-items.result.now l.runner l.entry-index l.out c.as_slice-entry-items.ensures
    c.loop-entry-test.false l.invariant).1
