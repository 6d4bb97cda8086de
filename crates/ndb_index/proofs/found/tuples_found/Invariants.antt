use Rattle.ndb_index.proofs.found.tuples_found.Given as goal

abbrev pub ghosts-tuple_lines : goal.ghosts-tuple_lines
ghosts-tuple_lines a = record { name = a.blank.name; parts = a.blank.parts }
