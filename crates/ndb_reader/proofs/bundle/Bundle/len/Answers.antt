use Rattle.std.proofs.Common.{List, length, sym, ap, ◌∙◌}
use Rattle.ndb_reader.specs.declared.files.FileEnd.{FileEnd}
use Rattle.ndb_reader.proofs.Filing.{files-length}
use Rattle.ndb_reader.proofs.bundle.Bundle.len.Goals as goal

pub returns : goal.returns
returns c =
    c.file_count.ensures ∙ ap (λ (ends : List FileEnd). length ends) c.deref.ensures.value
    ∙ sym (files-length 0 0 c.args.self.now.ends.items c.args.self.now.names.items c.args.self.now.db)
