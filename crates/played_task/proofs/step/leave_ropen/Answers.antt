use Rattle.std.proofs.Common.{◌≡◌, OnOk, subst}
use Rattle.net_base.specs.declared.left.Left.{Left}
use Rattle.played_task.specs.declared.step.StepTask.TheVariants as task
use Rattle.played_task.specs.StepLaws.{left_on, left_through}
use Rattle.played_task.proofs.step.leave_ropen.Goals as goal

pub returns-then-is_through-clause-ok : goal.returns-then-is_through-clause-ok
returns-then-is_through-clause-ok c =
    subst (λ (l : Left). OnOk c.leave.result (c.leave.new.left ≡ l))
    (left_through (task.Ropen c.args.task.now) c.is_through.result c.args.left.now c.is_through.ensures c.if-is_through.true) c.leave.ensures.ok

pub returns-clause-ok : goal.returns-clause-ok
returns-clause-ok c = left_on (task.Ropen c.args.task.now) c.is_through.result c.args.left.now c.is_through.ensures c.if-is_through.false
