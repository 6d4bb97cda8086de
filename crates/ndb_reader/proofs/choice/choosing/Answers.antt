use Rattle.std.proofs.Common.{[], sym, ap, ◌∙◌, arith}
use Rattle.std.specs.Prelude.{codes}
use Rattle.net_base.specs.Networks.{tuple_names}
use Rattle.net_base.proofs.Shared.{find-here, find-on}
use Rattle.ndb_reader.proofs.Choosing.{none-chooses}
use Rattle.ndb_reader.proofs.choice.choosing.Goals as goal

pub returns-then-not-has_database : goal.returns-then-not-has_database
returns-then-not-has_database c = none-chooses c.args.db.now c.args.end (sym c.has_database.ensures ∙ c.if-not-has_database.true)

pub returns-then-names : goal.returns-then-names
returns-then-names c = (
  omega (arith, c.loop-place-test.true, c.requires),
  find-here (tuple_names (codes "database")) c.args.db.now c.loop-place.place c.args.end [] (omega (arith, c.loop-place-test.true)) (omega (arith, c.loop-place-test.true, c.requires)) c.loop-place.invariant
      (ap (tuple_names (codes "database")) (sym c.tuple.ensures) ∙ (sym c.names.ensures ∙ c.if-names.true)),
)

pub loop-place-preserved : goal.loop-place-preserved
loop-place-preserved c =
    find-on (tuple_names (codes "database")) c.args.db.now c.loop-place.place [] (omega (arith, c.loop-place-test.true, c.requires)) c.loop-place.invariant
    (ap (tuple_names (codes "database")) (sym c.tuple.ensures) ∙ (sym c.names.ensures ∙ c.if-names.false))
