use Rattle.std.proofs.Common.{List, ℕ, length, ap, ◌∙◌, arith}
use Rattle.std.specs.Prelude.{slice_range}
use Rattle.net_base.specs.NdbBundle.{File}
use Rattle.ndb_reader.specs.declared.files.FileEnd.{FileEnd}
use Rattle.ndb_reader.specs.Filed.{file_begins_at}
use Rattle.ndb_reader.proofs.Filing.{file-found, file-within}
use Rattle.ndb_reader.proofs.bundle.Bundle.name.Goals as goal

pub part-requires-clause-rise : goal.part-requires-clause-rise
part-requires-clause-rise c =
    let at = file-within 0 0 c.args.self.now.ends.items (length c.args.self.now.names.items) (length c.args.self.now.db) c.args.number c.index.result.now c.requires.sound c.requires.within c.index.ensures in
    omega (arith, at.0, c.name_begin-first.ensures, ap (λ (ends : List FileEnd). file_begins_at 0 ends c.args.number) c.deref.ensures.value)

pub part-requires-clause-within : goal.part-requires-clause-within
part-requires-clause-within c =
    let at = file-within 0 0 c.args.self.now.ends.items (length c.args.self.now.names.items) (length c.args.self.now.db) c.args.number c.index.result.now c.requires.sound c.requires.within c.index.ensures in
    omega (arith, at.1, ap (λ (bytes : List ℕ). length bytes) c.deref-2.ensures.value)

pub returns : goal.returns
returns c d =
    c.part.ensures
    ∙ ap (λ (bytes : List ℕ). slice_range bytes c.name_begin-first.result c.index.result.now.name) c.deref-2.ensures.value
    ∙ ap (λ (first : ℕ). slice_range c.args.self.now.names.items first c.index.result.now.name) (c.name_begin-first.ensures ∙ ap (λ (ends : List FileEnd). file_begins_at 0 ends c.args.number) c.deref.ensures.value)
    ∙ ap (λ (f : File). f.name) (file-found 0 0 c.args.self.now.ends.items c.args.self.now.names.items c.args.self.now.db c.args.number c.index.result.now d c.requires.within c.index.ensures)
