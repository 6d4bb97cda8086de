use Rattle.std.proofs.Common.{length, arith}
use Rattle.ndb_reader.proofs.Filing.{file-rise, file-filed}
use Rattle.ndb_reader.proofs.files.Files.end_file.Goals as goal

pub returns-clause-sound : goal.returns-clause-sound
returns-clause-sound c =
    file-rise c.args.self.now.ends.items c.push.new.self.items c.in_ok-name.name c.in_ok-tuple.tuple (length c.args.self.now.names.items) (length c.args.self.now.growing.tuples) c.requires.sound
    (omega (arith, c.in_ok-name.ensures, c.len.ensures)) (omega (arith, c.in_ok-tuple.ensures, c.tuple_count.ensures)) c.in_ok-push.ensures.items

pub returns-clause-ok : goal.returns-clause-ok
returns-clause-ok c =
    file-filed c.args.self.now.ends.items c.push.new.self.items c.args.self.now.names.items c.args.self.now.growing c.in_ok-name.name c.in_ok-tuple.tuple c.requires.last
    (omega (arith, c.in_ok-name.ensures, c.len.ensures)) (omega (arith, c.in_ok-tuple.ensures, c.tuple_count.ensures)) c.in_ok-push.ensures.items
