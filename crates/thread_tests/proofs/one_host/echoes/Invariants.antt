use Rattle.net_base.specs.Tasks.{nobody}
use Rattle.thread_tests.proofs.one_host.echoes.Given as goal

-- the net that was just opened
abbrev pub ghosts-echoed-J-Naming : goal.ghosts-echoed-J-Naming
ghosts-echoed-J-Naming g a = record { run = a.opened }

-- in the worked world
abbrev pub ghosts-echoed-J-Placing : goal.ghosts-echoed-J-Placing
ghosts-echoed-J-Placing g a = record { world = a.world.now; tasks = nobody }
