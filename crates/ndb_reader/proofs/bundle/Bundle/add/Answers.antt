use Rattle.std.proofs.Common.{List, ℕ, length, ap, ◌∙◌, arith}
use Rattle.std.specs.Prelude.{slice_range}
use Rattle.net_base.specs.NdbBundle.{File}
use Rattle.net_base.specs.Store.{with_tuples}
use Rattle.ndb_reader.specs.declared.files.FileEnd.{FileEnd}
use Rattle.ndb_reader.specs.Filed.{tuple_at}
use Rattle.ndb_reader.proofs.Filing.{file-found, file-within}
use Rattle.ndb_reader.proofs.bundle.Bundle.add.Goals as goal

pub add_tuples-requires-clause-rise : goal.add_tuples-requires-clause-rise
add_tuples-requires-clause-rise c =
    let at = file-within 0 0 c.args.self.now.ends.items (length c.args.self.now.names.items) (length c.args.self.now.db) c.args.number c.index.result.now c.requires.sound c.requires.within c.index.ensures in
    omega (arith, at.2, c.tuple_begin-first.ensures, ap (λ (ends : List FileEnd). tuple_at 0 ends c.args.number) c.deref.ensures.value)

pub add_tuples-requires-clause-within : goal.add_tuples-requires-clause-within
add_tuples-requires-clause-within c =
    let at = file-within 0 0 c.args.self.now.ends.items (length c.args.self.now.names.items) (length c.args.self.now.db) c.args.number c.index.result.now c.requires.sound c.requires.within c.index.ensures in
    omega (arith, at.3)

pub returns : goal.returns
returns c d =
    c.in_ok-add_tuples.ensures
    ∙ ap (λ (first : ℕ). with_tuples (slice_range c.args.self.now.db first c.index.result.now.tuple) c.args.out.now) (c.tuple_begin-first.ensures ∙ ap (λ (ends : List FileEnd). tuple_at 0 ends c.args.number) c.deref.ensures.value)
    ∙ ap (λ (f : File). with_tuples f.tuples c.args.out.now) (file-found 0 0 c.args.self.now.ends.items c.args.self.now.names.items c.args.self.now.db c.args.number c.index.result.now d c.requires.within c.index.ensures)
