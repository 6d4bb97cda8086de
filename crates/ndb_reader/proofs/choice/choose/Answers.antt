use Rattle.std.proofs.Common.{sym, ◌∙◌, length, arith}
use Rattle.ndb_reader.specs.Names.{names_seen}
use Rattle.ndb_reader.proofs.Filing.{files-length, first-within}
use Rattle.ndb_reader.proofs.Chosen.{no_names}
use Rattle.ndb_reader.proofs.Local.{own-chosen, names-chosen}
use Rattle.ndb_reader.proofs.choice.choose.Goals as goal

pub names_of-requires : goal.names_of-requires
names_of-requires c = first-within c.args.bundle.ends.items (length c.args.bundle.names.items) (length c.args.bundle.db) c.index.result.now c.requires.some c.requires.sound c.index.ensures

pub into_row-requires-clause-within : goal.into_row-requires-clause-within
into_row-requires-clause-within c = omega (arith, c.requires.some, files-length 0 0 c.args.bundle.ends.items c.args.bundle.names.items c.args.bundle.db)

pub returns-then-len-eq0 : goal.returns-then-len-eq0
returns-then-len-eq0 c = λ local others files.
    own-chosen c.args.bundle.ends.items c.args.bundle.names.items c.args.bundle.db c.into_row.result (names_seen c.in_ok-names.names.keys) c.index.result.now local others c.requires.some c.index.ensures files
    c.in_ok-names.ensures (no_names c.in_ok-names.names.keys (sym c.len.ensures.len ∙ c.if-len-eq0.true)) c.into_row.ensures

pub returns : goal.returns
returns c = λ local others files.
    names-chosen c.args.bundle.ends.items c.args.bundle.names.items c.args.bundle.db c.in_ok-db.db c.in_ok-names.names.keys c.index.result.now local others c.requires.some c.index.ensures files
    c.in_ok-names.ensures (λ none. c.if-len-eq0.false (c.len.ensures.len ∙ none)) c.in_ok-db.ensures
