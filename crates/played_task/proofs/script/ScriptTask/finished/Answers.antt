use Rattle.std.proofs.Common.{sym, ap, drop, ◌∙◌}
use Rattle.played_task.specs.ScriptTasks as spec
use Rattle.played_task.proofs.Played.{finished_right, progress_finished}
use Rattle.played_task.proofs.script.ScriptTask.finished.Goals as goal

pub returns : goal.returns
returns c = λ zone s rs names at.
    sym (progress_finished c.self.inside.finished c.self.inside.left c.self.inside.task (drop c.self.inside.finished c.self.inside.steps.now))
    ∙ ap spec.finished_in c.self.view_is
    ∙ finished_right zone s rs names c.args.self.now at
