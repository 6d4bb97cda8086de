use Rattle.plain_runner.proofs.Shared.{may_next}
use Rattle.end_rows.proofs.Changes.{written_all, written_more, written_none}
use Rattle.end_rows.proofs.rows.put_end_rows.Goals as goal

pub follow_entry-requires : goal.follow_entry-requires
follow_entry-requires c =
    let l = c.loop-stamp in (
      c.args.world.now,
      may_next c.args.world.now c.args.history.now c.as_slice-entries.result.now l.runner l.stamp c.index-entries-stamp.result c.requires.legal c.requires.timed
          c.as_slice-entries.ensures c.loop-stamp-test.true c.index-entries-stamp.is l.invariant.followed,
    )

pub loop-stamp-init : goal.loop-stamp-init
loop-stamp-init c =
    written_none c.args.world.now c.as_slice-entries.result.now c.in_ok-runner.runner c.new-ends.result.entries c.args.out.now
    (record { tracks = c.in_ok-runner.ensures.tracks; history_is = c.in_ok-runner.ensures.empty }) c.new-ends.ensures.empty

pub loop-stamp-preserved : goal.loop-stamp-preserved
loop-stamp-preserved c =
    let l = c.loop-stamp in
    let next = may_next c.args.world.now c.args.history.now c.as_slice-entries.result.now l.runner l.stamp c.index-entries-stamp.result c.requires.legal c.requires.timed
    c.as_slice-entries.ensures c.loop-stamp-test.true c.index-entries-stamp.is l.invariant.followed in
    written_more c.args.world.now c.as_slice-entries.result.now l.stamp c.index-entries-stamp.result l.runner c.follow_entry.new.runner l.ends.entries
    c.follow_entry.new.ends.entries l.out c.follow_entry.new.out _ c.loop-stamp-test.true c.index-entries-stamp.is l.invariant
    (c.in_ok-follow_entry.ensures c.args.world.now next)

pub returns : goal.returns
returns c =
    let l = c.loop-stamp in
    written_all c.args.world.now c.args.history.now c.as_slice-entries.result.now l.stamp l.runner l.ends.entries c.args.out.now l.out c.as_slice-entries.ensures
    c.loop-stamp-test.false l.invariant
