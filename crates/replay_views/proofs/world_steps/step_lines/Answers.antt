use Rattle.std.proofs.Common.{rules}
use Rattle.replay_views.specs.WorldSteps.{step_lines}
use Rattle.replay_views.proofs.Lines.{ends, fewer_left, goes_on}
use Rattle.replay_views.proofs.world_steps.step_lines.Goals as goal

pub returns-then-eq : goal.returns-then-eq
returns-then-eq c =
    let l = c.loop-rest in
    ends l.lines (step_lines c.args.text.now) l.under l.number l.rest c.split_first.result.1 c.in-Some.part c.split_first.result.0.now c.in-Some.is
    c.split_first.ensures (search rules) l.invariant

pub loop-rest-smaller : goal.loop-rest-smaller
loop-rest-smaller c =
    fewer_left c.loop-rest.rest c.split_first.result.1 c.in-Some.part c.split_first.result.0.now c.in-Some.is c.split_first.ensures

pub loop-rest-preserved : goal.loop-rest-preserved
loop-rest-preserved c =
    let l = c.loop-rest in
    goes_on l.lines c.add_line.new.lines (step_lines c.args.text.now) l.under c.goes_under-under.result l.number c.saturating_add-number.result l.rest
    c.split_first.result.1 c.in-Some.part c.split_first.result.0.now c.in-Some.is c.split_first.ensures (search rules) c.in_ok-add_line.ensures
    c.goes_under-under.ensures (search rules) l.invariant
