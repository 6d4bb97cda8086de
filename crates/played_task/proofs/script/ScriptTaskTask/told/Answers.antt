use Rattle.std.proofs.Common.{◌+◌, ◌<◌, ◌∙◌, Option, drop, length, ap, arith}
use Rattle.played_task.specs.declared.step.StepTask.{StepTask}
use Rattle.played_task.specs.ScriptTasks as spec
use Rattle.played_task.proofs.Played.{has_room, kept_told, told_on, told_through}
use Rattle.played_task.proofs.script.ScriptTaskTask.told.Goals as goal

-- the step that is through is one of the script
pub overflow_add-self : goal.overflow_add-self
overflow_add-self c =
    let room : c.self.inside.finished < length c.self.inside.steps.now =
    has_room c.self.inside.finished c.self.inside.left c.take_reply.new.left c.self.inside.task c.take_reply.new.task c.self.inside.steps.now c.args.reply _
    c.in_ok-through.ensures.through c.self.invariant c.if-through.true in
    omega (arith, room, c.self.told)

pub invariant_of-self-else-through : goal.invariant_of-self-else-through
invariant_of-self-else-through c =
    kept_told c.self.inside.finished c.self.inside.left c.take_reply.new.left c.self.inside.task c.take_reply.new.task c.self.inside.steps.now c.args.reply _
    c.in_ok-through.ensures.through c.in_ok-through.ensures.goes_on c.if-through.false c.self.invariant

pub returns-then-through-clause-ok : goal.returns-then-through-clause-ok
returns-then-through-clause-ok c =
    ap (λ (t : Option StepTask). spec.progress (c.self.inside.finished + 1) c.take_reply.new.left t (drop (c.self.inside.finished + 1) c.self.inside.steps.now)) c.forget.ensures
    ∙ told_through c.self.inside.finished c.self.inside.left c.take_reply.new.left c.self.inside.task c.take_reply.new.task c.self.inside.steps.now c.args.reply _
    c.in_ok-through.ensures.through c.in_ok-through.ensures.left c.if-through.true
    ∙ ap (λ (s : spec.Scripting). spec.after s c.args.reply) c.self.view_is

pub returns-else-through-clause-ok : goal.returns-else-through-clause-ok
returns-else-through-clause-ok c =
    told_on c.self.inside.finished c.self.inside.left c.take_reply.new.left c.self.inside.task c.take_reply.new.task c.self.inside.steps.now c.args.reply _
    c.in_ok-through.ensures.through c.in_ok-through.ensures.goes_on c.if-through.false c.in_ok-through.ensures.left
    ∙ ap (λ (s : spec.Scripting). spec.after s c.args.reply) c.self.view_is
