use Rattle.thread_tests.proofs.one_lock.two_threads_count.Given as goal

-- the journal that was just opened
abbrev pub ghosts-counted_by_two : goal.ghosts-counted_by_two
ghosts-counted_by_two g a = record { run = a.opened }
