use Rattle.std.proofs.Common.{ap, sym, subst, ◌∙◌}
use Rattle.agenda.specs.Given.{AreBegun}
use Rattle.echo_server.specs.Echoes.{claimed}
use Rattle.echo_server.specs.Giving.{AskAs, tasks_given}
use Rattle.echo_server.proofs.Begun.{begun_given}
use Rattle.echo_server.proofs.Read.{have_read}
use Rattle.echo_server.proofs.echoes.Goals as goal

pub returns-clause-asked : goal.returns-clause-asked
returns-clause-asked g c =
    subst (λ l. AskAs l c.args.world.now c.in_ok-run.run'.history) (c.in_ok-tasks.ensures ∙ ap tasks_given c.len.ensures) c.in_ok-run.ensures.asked

pub returns-clause-read : goal.returns-clause-read
returns-clause-read g c =
    have_read _ _ c.args.world.now c.in_ok-tasks.tasks.items c.in_ok-run.run'.history c.in_ok-run.run'.tasks.items c.in_ok-run.ensures.told
    c.in_ok-run.ensures.places c.in_ok-run.ensures.none

pub run_tasks-requires-clause-begun : goal.run_tasks-requires-clause-begun
run_tasks-requires-clause-begun g c κs within = subst (λ l. AreBegun claimed l) (sym c.in_ok-tasks.ensures) (begun_given c.len.result)
