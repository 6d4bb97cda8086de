use Rattle.std.proofs.Common.{ℕ, List, true, ◌≡◌, bytes_eq, vec_items, sym, subst, arith}
use Rattle.std.specs.List.{list_any}
use Rattle.ndb_reader.specs.Filed.{files_of}
use Rattle.ndb_reader.specs.Names.{names_seen}
use Rattle.ndb_reader.proofs.Chained.{among-at}
use Rattle.ndb_reader.proofs.InRow.{rows-none, rows-next, rows-all}
use Rattle.ndb_reader.proofs.choice.rows_of.Goals as goal

pub loop-name-init : goal.loop-name-init
loop-name-init c = (rows-none (files_of c.args.bundle.now) c.as_slice-name-items.result.now c.args.first, omega arith, c.requires.within)

pub row_of-requires-clause-one : goal.row_of-requires-clause-one
row_of-requires-clause-one c =
    subst (λ (name : List ℕ). list_any (bytes_eq name) (names_seen c.args.names.now.keys) ≡ true) (sym c.deref.ensures.value)
    (subst (λ keys. list_any (bytes_eq (vec_items c.name-item.result)) (names_seen keys) ≡ true) c.as_slice-name-items.ensures.keys
    (among-at c.as_slice-name-items.result.now c.loop-name.name-index c.name-item.result (omega (arith, c.loop-name-test.true)) c.name-item.is))

pub loop-name-preserved : goal.loop-name-preserved
loop-name-preserved c = (
  rows-next (files_of c.args.bundle.now) c.as_slice-name-items.result.now c.loop-name.name-index c.args.first c.loop-name.end _ c.name-item.result c.deref.result.now
      (omega (arith, c.loop-name-test.true)) c.name-item.is c.deref.ensures.value c.in_ok-end.ensures.tuples c.loop-name.invariant.0,
  omega (arith, c.loop-name.invariant.1, c.in_ok-end.ensures.rise),
  c.in_ok-end.ensures.within,
)

pub returns-clause-tuples : goal.returns-clause-tuples
returns-clause-tuples c =
    rows-all (files_of c.args.bundle.now) c.args.names.now.keys c.as_slice-name-items.result.now c.loop-name.name-index c.args.first c.loop-name.end c.as_slice-name-items.ensures.keys (omega (arith, c.loop-name-test.false)) c.loop-name.invariant.0
