use Rattle.std.proofs.Common.{◌++◌}
use Rattle.net_chart.specs.Drawing.{drawing_of}
use Rattle.net_chart.specs.Talks.{talks_drawn}
use Rattle.net_chart.proofs.Talking.{talks_more}
use Rattle.net_chart.proofs.talk_chart.put_things.Goals as goal

pub loop-stamp-preserved : goal.loop-stamp-preserved
loop-stamp-preserved c =
    let l = c.loop-stamp in
    let page = c.args.page.now in
    let h = c.args.entries.now in
    let talks = c.args.talks.now in
    talks_more page h h talks l.stamp c.index-entries-stamp.result l.past c.take.new.self c.in_ok-thing.thing c.talked.result l.out c.put_drawn.new.out
    (c.args.out.now ++ drawing_of page (talks_drawn page.brief h talks)) c.loop-stamp-test.true c.index-entries-stamp.is c.in_ok-thing.ensures.thing
    c.in_ok-thing.ensures.past c.talked.ensures c.in_ok-put_drawn.ensures l.invariant
