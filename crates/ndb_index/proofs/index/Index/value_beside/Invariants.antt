use Rattle.ndb_index.proofs.index.Index.value_beside.Given as goal

abbrev pub ghosts-beside_by : goal.ghosts-beside_by
ghosts-beside_by a = record { name = a.blank.name; parts = a.blank.parts }
