use Rattle.std.proofs.Common.{[], ap, ◌∙◌, length}
use Rattle.ndb_reader.specs.Filed.{Filed, filed, file_begun}
use Rattle.ndb_reader.proofs.Filing.{name-rise, name-filed}
use Rattle.ndb_reader.proofs.files.Files.begin.Goals as goal

pub returns-clause-sound : goal.returns-clause-sound
returns-clause-sound c =
    name-rise c.end_file.new.self.ends.items c.end_file.new.self.names.items c.extend_from_slice.new.self.items c.args.name.now (length c.end_file.new.self.growing.tuples) c.in_ok-end_file.ensures.sound c.in_ok-extend_from_slice.ensures.items

pub returns-clause-ok : goal.returns-clause-ok
returns-clause-ok c =
    name-filed c.end_file.new.self.ends.items c.end_file.new.self.names.items c.extend_from_slice.new.self.items c.args.name.now c.end_file.new.self.growing (filed c.args.self.now) c.in_ok-end_file.ensures.sound c.in_ok-extend_from_slice.ensures.items
    (c.in_ok-end_file.ensures.ok ∙ ap (λ (f : Filed). file_begun [] f) c.in_ok-end_tuple.ensures.ok)
