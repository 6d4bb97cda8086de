use Rattle.std.proofs.Common.{[], ◌∷◌, ◌++◌, Some, ap, ◌∙◌}
use Rattle.echo_server.specs.Giving.{tasks_given}
use Rattle.echo_server.proofs.Begun.{given_push}
use Rattle.echo_server.proofs.tasks_of.Goals as goal

pub loop-place-preserved : goal.loop-place-preserved
loop-place-preserved c =
    c.in_ok-push.ensures.items
    ∙ (ap (λ l. l ++ Some c.in_ok-task.task ∷ []) c.loop-place.invariant
    ∙ (ap (λ t. tasks_given c.loop-place.place ++ Some t ∷ []) c.in_ok-task.ensures ∙ given_push c.loop-place.place))
