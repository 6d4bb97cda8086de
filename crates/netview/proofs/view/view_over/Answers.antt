use Rattle.std.proofs.lemmas.Result.{IfOk-weaker}
use Rattle.netview.specs.Commands.{view_read}
use Rattle.netview.proofs.Shown.{answers_bad, answers_fault, answers_view, view_fits}
use Rattle.netview.proofs.view.view_over.Goals as goal

pub check_input-requires : goal.check_input-requires
check_input-requires c = view_fits (view_read c.args.asked) c.args.input.now c.requires

pub show-answer-requires-clause-world : goal.show-answer-requires-clause-world
show-answer-requires-clause-world c = (c.in-Ok.ensures.0).world

pub show-answer-requires-clause-legal : goal.show-answer-requires-clause-legal
show-answer-requires-clause-legal c = c.in-Ok.ensures.1

pub show-answer-requires-clause-timed : goal.show-answer-requires-clause-timed
show-answer-requires-clause-timed c = c.in-Ok.ensures.2

pub returns-in-Ok : goal.returns-in-Ok
returns-in-Ok c =
    IfOk-weaker _ _ _
    (λ answer is. answers_view (view_read c.args.asked) c.args.input.now c.in-Ok.read.world c.in-Ok.read.history c.in-Ok.read.told answer c.a_fault_is_not_legal.ensures
    c.requires c.in-Ok.ensures.0 c.in-Ok.ensures.1 c.in-Ok.ensures.2 is)
    c.show-answer.ensures

pub returns-in-Err-Bad : goal.returns-in-Err-Bad
returns-in-Err-Bad c =
    let told = rw c.in-Err-Bad.field-0-is at c.in-Err-Bad.ensures in
    IfOk-weaker _ _ _ (λ answer is. answers_bad (view_read c.args.asked) c.args.input.now _ _ answer c.requires told is) c.bad_input.ensures

pub returns-in-Err-Fault : goal.returns-in-Err-Fault
returns-in-Err-Fault c =
    let told = rw c.in-Err-Fault.field-0-is at c.in-Err-Fault.ensures in
    IfOk-weaker _ _ _
    (λ answer is. answers_fault (view_read c.args.asked) c.args.input.now _ _ answer c.a_fault_is_not_legal.ensures c.a_fault_is_one.ensures c.requires told is)
    c.rule_broken.ensures
