use Rattle.std.proofs.Common.{List, length, ap, ◌∙◌, arith}
use Rattle.ndb_reader.specs.declared.files.FileEnd.{FileEnd}
use Rattle.ndb_reader.specs.Filed.{tuple_at}
use Rattle.ndb_reader.proofs.Filing.{files-length}
use Rattle.ndb_reader.proofs.InRow.{row-rises, row-within, row-kept}
use Rattle.ndb_reader.proofs.bundle.Bundle.into_row.Goals as goal

pub tuple_begin-from-requires : goal.tuple_begin-from-requires
tuple_begin-from-requires c =
    omega (arith, c.requires.rise, c.requires.within, files-length 0 0 c.args.self.ends.items c.args.self.names.items c.args.self.db, ap (λ (ends : List FileEnd). length ends) c.deref.ensures.value)

pub tuple_begin-to-requires : goal.tuple_begin-to-requires
tuple_begin-to-requires c =
    omega (arith, c.requires.within, files-length 0 0 c.args.self.ends.items c.args.self.names.items c.args.self.db, ap (λ (ends : List FileEnd). length ends) c.deref-2.ensures.value)

pub keep-requires-clause-rise : goal.keep-requires-clause-rise
keep-requires-clause-rise c =
    omega (
      arith,
      c.tuple_begin-from.ensures,
      ap (λ (ends : List FileEnd). tuple_at 0 ends c.args.first) c.deref.ensures.value,
      c.tuple_begin-to.ensures,
      ap (λ (ends : List FileEnd). tuple_at 0 ends c.args.end) c.deref-2.ensures.value,
      row-rises 0 0 c.args.self.ends.items (length c.args.self.names.items) (length c.args.self.db) c.args.first c.args.end c.requires.sound c.requires.rise
          (omega (arith, c.requires.within, files-length 0 0 c.args.self.ends.items c.args.self.names.items c.args.self.db)),
    )

pub keep-requires-clause-within : goal.keep-requires-clause-within
keep-requires-clause-within c =
    omega (
      arith,
      c.tuple_begin-to.ensures,
      ap (λ (ends : List FileEnd). tuple_at 0 ends c.args.end) c.deref-2.ensures.value,
      row-within 0 0 c.args.self.ends.items (length c.args.self.names.items) (length c.args.self.db) c.args.end c.requires.sound
          (omega (arith, c.requires.within, files-length 0 0 c.args.self.ends.items c.args.self.names.items c.args.self.db)),
    )

pub returns : goal.returns
returns c =
    row-kept c.args.self.ends.items c.args.self.names.items c.args.self.db _ c.args.first c.args.end c.tuple_begin-from.result c.tuple_begin-to.result c.requires.sound c.requires.rise c.requires.within
    (c.tuple_begin-from.ensures ∙ ap (λ (ends : List FileEnd). tuple_at 0 ends c.args.first) c.deref.ensures.value)
    (c.tuple_begin-to.ensures ∙ ap (λ (ends : List FileEnd). tuple_at 0 ends c.args.end) c.deref-2.ensures.value)
    c.keep.ensures
