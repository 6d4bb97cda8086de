use Rattle.std.proofs.Common.{arith}
use Rattle.net_base.specs.Next.{own_replies, zone_of}
use Rattle.order_search.proofs.Marking.{lines_begin, range_more, step_line}
use Rattle.order_search.proofs.Resulting.{step_put}
use Rattle.order_search.proofs.results.put_results.Goals as goal

pub loop-step-init : goal.loop-step-init
loop-step-init c =
    lines_begin c.args.world.now c.args.walk.now.history c.args.number c.args.script.now c.len-step-end.result c.args.out.now c.len-step-end.ensures

pub loop-step-preserved : goal.loop-step-preserved
loop-step-preserved c =
    range_more (step_line (zone_of c.args.world.now) c.args.script.now (own_replies c.args.walk.now.history c.args.number)) c.loop-step.step c.len-step-end.result
    c.loop-step.out _ _ c.loop-step-test.true
    (step_put c.args.world.now c.args.walk.now c.requires.walk c.args.number c.loop-step.step c.finished_of-finished.result c.args.script.now c.at-latest.result
    c.loop-step.out c.put_line.new.out c.requires.script (omega (arith, c.loop-step-test.true, c.len-step-end.ensures)) c.finished_of-finished.ensures
    c.at-latest.ensures c.in_ok-put_line.ensures)
    c.loop-step.invariant
