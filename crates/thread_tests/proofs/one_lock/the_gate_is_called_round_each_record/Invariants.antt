use Rattle.thread_tests.proofs.one_lock.the_gate_is_called_round_each_record.Given as goal

-- the journal that was just opened
abbrev pub ghosts-watched : goal.ghosts-watched
ghosts-watched g a = record { run = a.opened }
