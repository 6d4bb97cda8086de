use Rattle.net_base.specs.Tasks.{nobody}
use Rattle.agenda.proofs.phases.run_in_books.Given as goal

-- the journal that was just opened
abbrev pub ghosts-run_named-J-Naming : goal.ghosts-run_named-J-Naming
ghosts-run_named-J-Naming g a = record { run = a.opened }

-- the world whose scripts run
abbrev pub ghosts-run_named-J-Placing : goal.ghosts-run_named-J-Placing
ghosts-run_named-J-Placing g a = record { world = a.world.now; tasks = nobody }
