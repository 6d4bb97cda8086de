use Rattle.ndb_index.proofs.index.Index.closest.Given as goal

abbrev pub ghosts-closest_by : goal.ghosts-closest_by
ghosts-closest_by a = record { name = a.blank.name; parts = a.blank.parts }
