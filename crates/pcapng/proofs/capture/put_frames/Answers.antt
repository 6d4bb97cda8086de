use Rattle.std.proofs.Common.{ℕ, List, ◌++◌, flat_map, refl, ap, ◌∙◌}
use Rattle.net_base.specs.declared.history.Entry.{Entry}
use Rattle.plain_runner.proofs.Shared.{may_next}
use Rattle.pcapng.specs.Frames.{frame_block, stamped_frames}
use Rattle.pcapng.proofs.Following.{captured_all, captured_more, captured_none}
use Rattle.pcapng.proofs.capture.put_frames.Goals as goal

pub put_frame-requires : goal.put_frame-requires
put_frame-requires c =
    let l = c.loop-stamp in (
      c.args.world.now,
      may_next c.args.world.now c.args.history.now c.as_slice-entries.result.now l.runner l.stamp c.index-entries-stamp.result c.requires.legal
          c.requires.timed
          c.as_slice-entries.ensures c.loop-stamp-test.true c.index-entries-stamp.is l.invariant.followed,
    )

pub follow-requires : goal.follow-requires
follow-requires c =
    let l = c.loop-stamp in record {
      world = c.args.world.now;
      entry = c.index-entries-stamp.result;
      is = record { caller_is = refl; event_is = refl };
      follows = may_next c.args.world.now c.args.history.now c.as_slice-entries.result.now l.runner l.stamp c.index-entries-stamp.result
          c.requires.legal c.requires.timed
          c.as_slice-entries.ensures c.loop-stamp-test.true c.index-entries-stamp.is l.invariant.followed;
    }

pub loop-stamp-init : goal.loop-stamp-init
loop-stamp-init c =
    captured_none c.args.world.now c.args.copies.now.entries c.as_slice-entries.result.now _ c.args.out.now
    (record { tracks = c.in_ok-runner.ensures.tracks; history_is = c.in_ok-runner.ensures.empty })

pub loop-stamp-preserved : goal.loop-stamp-preserved
loop-stamp-preserved c =
    let l = c.loop-stamp in
    let next = may_next c.args.world.now c.args.history.now c.as_slice-entries.result.now l.runner l.stamp c.index-entries-stamp.result
    c.requires.legal c.requires.timed
    c.as_slice-entries.ensures c.loop-stamp-test.true c.index-entries-stamp.is l.invariant.followed in
    captured_more c.args.world.now c.args.copies.now.entries c.as_slice-entries.result.now l.runner c.follow.new.self l.stamp c.index-entries-stamp.result
    l.out c.put_frame.new.out _ c.loop-stamp-test.true c.index-entries-stamp.is l.invariant (c.in_ok-put_frame.ensures c.args.world.now next)
    (c.in_ok-follow.ensures c.args.world.now c.index-entries-stamp.result (record { caller_is = refl; event_is = refl }) next).followed

pub returns : goal.returns
returns c =
    let l = c.loop-stamp in
    captured_all c.args.world.now c.args.copies.now.entries c.as_slice-entries.result.now l.runner l.stamp l.out _ c.loop-stamp-test.false l.invariant
    ∙ ap (λ (es : List Entry). c.args.out.now ++ flat_map (frame_block c.args.copies.now.entries) (stamped_frames c.args.world.now es)) c.as_slice-entries.ensures
