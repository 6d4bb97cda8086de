use Rattle.std.proofs.Common.{◌++◌}
use Rattle.net_chart.specs.Drawing.{drawing_of}
use Rattle.net_chart.specs.Things.{things_of}
use Rattle.net_chart.proofs.Steps.{things_more}
use Rattle.net_chart.proofs.chart.put_things.Goals as goal

pub loop-entry-preserved : goal.loop-entry-preserved
loop-entry-preserved c =
    let l = c.loop-entry in
    let page = c.args.page.now in
    things_more page page.brief c.args.entries.now c.args.entries.now l.entry-index c.entry-item.result l.past c.take.new.self c.in_ok-thing.thing l.out c.put_drawn.new.out
    (c.args.out.now ++ drawing_of page (things_of page.brief c.args.entries.now)) c.loop-entry-test.true c.entry-item.is c.in_ok-thing.ensures.thing
    c.in_ok-thing.ensures.past c.in_ok-put_drawn.ensures l.invariant
