use Rattle.std.proofs.Common.{◌-◌, arith}
use Rattle.net_base.specs.Store.{mark_lowered}
use Rattle.net_base.proofs.Skipped.{mapped-length, mapped-next, mapped-all}
use Rattle.net_base.proofs.ndb.runs.lower_marks.Goals as goal

pub lower_mark-requires : goal.lower_mark-requires
lower_mark-requires c =
    omega (arith, c.loop-place-test.true, c.len-place-end.ensures, c.args.marks.now.ok.0, mapped-length (mark_lowered c.args.count) c.args.marks.now.items c.loop-place.marks.items c.loop-place.place c.loop-place.invariant)

pub loop-place-preserved : goal.loop-place-preserved
loop-place-preserved c =
    mapped-next (mark_lowered c.args.count) c.args.marks.now.items c.loop-place.marks.items c.lower_mark.new.marks.items c.loop-place.place record { attr = 0; value = 0 }
    (omega (arith, c.loop-place-test.true, c.len-place-end.ensures, c.args.marks.now.ok.0)) c.loop-place.invariant (c.lower_mark.ensures record { attr = 0; value = 0 })

pub returns : goal.returns
returns c =
    mapped-all (mark_lowered c.args.count) c.args.marks.now.items c.loop-place.marks.items c.loop-place.place
    (omega (arith, c.loop-place-test.false, c.len-place-end.ensures, c.args.marks.now.ok.0)) c.loop-place.invariant
