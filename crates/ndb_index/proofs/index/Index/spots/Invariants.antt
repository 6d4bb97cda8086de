use Rattle.ndb_index.proofs.index.Index.spots.Given as goal

abbrev pub ghosts-spots_by : goal.ghosts-spots_by
ghosts-spots_by a = record { name = a.blank.name; parts = a.blank.parts }
