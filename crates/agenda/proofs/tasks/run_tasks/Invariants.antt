use Rattle.agenda.specs.Given.{tasks_of}
use Rattle.agenda.proofs.tasks.run_tasks.Given as goal

-- the journal that was just opened
abbrev pub ghosts-run_named-J-Naming : goal.ghosts-run_named-J-Naming
ghosts-run_named-J-Naming g a = record { run = a.opened }

-- the world, and the tasks that are given for it
abbrev pub ghosts-run_named-J-Placing : goal.ghosts-run_named-J-Placing
ghosts-run_named-J-Placing g a = record { world = a.world.now; tasks = tasks_of g.T.OwnTask.asks g.T.OwnTask.after a.tasks.items }
