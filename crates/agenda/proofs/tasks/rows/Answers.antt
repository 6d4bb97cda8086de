use Rattle.std.proofs.Common.{[], ◌∷◌, None, length, length-append, ap, arith, ◌∙◌}
use Rattle.agenda.specs.Given.{task_at}
use Rattle.agenda.proofs.Backing.{none_push}
use Rattle.agenda.proofs.tasks.rows.Goals as goal

pub loop-preserved : goal.loop-preserved
loop-preserved g c = (
  omega (arith, ap length c.in_ok-push.ensures.items, length-append c.loop.tasks.items (None ∷ []), c.loop.invariant.0),
  λ k. ap (λ l. task_at l k) c.in_ok-push.ensures.items ∙ none_push c.loop.tasks.items c.loop.invariant.1 k,
)
