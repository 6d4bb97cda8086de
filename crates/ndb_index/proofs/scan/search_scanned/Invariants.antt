use Rattle.ndb_index.proofs.scan.search_scanned.Given as goal

abbrev pub ghosts-search_by : goal.ghosts-search_by
ghosts-search_by a = record { name = a.blank.name; parts = a.blank.parts }
