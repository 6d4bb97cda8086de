use Rattle.std.proofs.Common.{◌∙◌}
use Rattle.ndb_reader.proofs.Filing.{tuple-rise, tuple-filed}
use Rattle.ndb_reader.proofs.files.Files.end_tuple.Goals as goal

pub returns-clause-sound : goal.returns-clause-sound
returns-clause-sound c =
    tuple-rise c.args.self.now.ends.items c.args.self.now.names.items c.args.self.now.growing c.end_tuple.new.self c.requires c.in_ok-end_tuple.ensures.ok

pub returns-clause-ok : goal.returns-clause-ok
returns-clause-ok c =
    tuple-filed c.args.self.now.ends.items c.args.self.now.names.items c.args.self.now.growing c.end_tuple.new.self c.requires
    (λ h. c.if-line_count-eq0.false (c.line_count.ensures ∙ h)) c.in_ok-end_tuple.ensures.ok
