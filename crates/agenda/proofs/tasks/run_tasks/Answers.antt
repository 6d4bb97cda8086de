use Rattle.std.proofs.Common.{option_map, ap}
use Rattle.net_base.specs.Tasks.{asking_of}
use Rattle.agenda.specs.Given.{tasks_of}
use Rattle.agenda.proofs.tasks.run_tasks.Goals as goal
use Rattle.net_base.proofs.Shared.{script_is}

pub returns-clause-asked : goal.returns-clause-asked
returns-clause-asked g c = λ k s t there given.
    let asks = g.T.OwnTask.asks in
    let after = g.T.OwnTask.after in
    let w = c.args.world.now in
    c.tasks_ask_in_order.ensures (tasks_of asks after c.args.tasks.items) w c.in_ok-run.run'.history k s (asking_of after asks t) c.in_ok-run.ensures.legal
    (script_is w k s there) (ap (option_map (asking_of after asks)) given)

pub returns-clause-prefixes : goal.returns-clause-prefixes
returns-clause-prefixes g c =
    c.tasks_keep_prefixes.ensures (tasks_of g.T.OwnTask.asks g.T.OwnTask.after c.args.tasks.items) c.args.world.now c.in_ok-run.run'.history c.requires.world
    c.in_ok-run.ensures.legal
