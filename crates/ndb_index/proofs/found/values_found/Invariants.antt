use Rattle.ndb_index.proofs.found.values_found.Given as goal

abbrev pub ghosts-beside_values : goal.ghosts-beside_values
ghosts-beside_values a = record { name = a.blank.name; parts = a.blank.parts }
