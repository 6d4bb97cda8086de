use Rattle.std.proofs.Common.{◌≡◌, ◌∙◌, Option, subst, ap}
use Rattle.std.specs.Prelude.{IfOk}
use Rattle.net_base.specs.declared.request.Request.{Request}
use Rattle.played_task.specs.ScriptTasks as spec
use Rattle.played_task.proofs.Played.{asks_first}
use Rattle.played_task.proofs.script.ScriptTaskTask.next.Goals as goal

pub returns-in-None : goal.returns-in-None
returns-in-None c =
    subst (λ (q : Option Request). IfOk c.first_asked.result (λ (asked : Option Request). asked ≡ q))
    (asks_first c.self.inside.finished c.self.inside.left c.self.inside.task c.self.inside.steps.now c.in-None.is c.args.fids.now.names
    ∙ ap (λ (s : spec.Scripting). spec.asks s c.args.fids.now.names) c.self.view_is)
    c.first_asked.ensures
