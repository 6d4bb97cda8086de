use Rattle.std.proofs.Common.{ℕ, List, true, ◌≡◌, bytes_eq, vec_items, sym, subst, arith}
use Rattle.std.specs.List.{list_any}
use Rattle.ndb_reader.specs.Filed.{files_of}
use Rattle.ndb_reader.specs.Names.{names_seen}
use Rattle.ndb_reader.proofs.Chained.{among-at, gathered-next}
use Rattle.ndb_reader.proofs.choice.copies_of.Goals as goal

pub add_named-requires-clause-one : goal.add_named-requires-clause-one
add_named-requires-clause-one c =
    subst (λ (name : List ℕ). list_any (bytes_eq name) (names_seen c.args.names.now.keys) ≡ true) (sym c.deref.ensures.value)
    (subst (λ keys. list_any (bytes_eq (vec_items c.name-item.result)) (names_seen keys) ≡ true) c.as_slice-name-items.ensures.keys
    (among-at c.as_slice-name-items.result.now c.loop-name.name-index c.name-item.result (omega (arith, c.loop-name-test.true)) c.name-item.is))

pub loop-name-preserved : goal.loop-name-preserved
loop-name-preserved c =
    gathered-next (files_of c.args.bundle.now) c.as_slice-name-items.result.now c.loop-name.name-index c.name-item.result c.deref.result.now c.loop-name.out c.add_named.new.out (omega (arith, c.loop-name-test.true)) c.name-item.is c.deref.ensures.value c.in_ok-add_named.ensures c.loop-name.invariant
