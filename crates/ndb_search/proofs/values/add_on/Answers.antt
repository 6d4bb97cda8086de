use Rattle.std.proofs.Common.{sym, ◌∙◌, arith}
use Rattle.ndb_search.proofs.Behind.{on-yes, on-no}
use Rattle.ndb_search.proofs.values.add_on.Goals as goal

pub loop-number-preserved-then-not-has_attr : goal.loop-number-preserved-then-not-has_attr
loop-number-preserved-then-not-has_attr c =
    on-no c.args.attr.now c.args.line.now c.loop-number.number c.pair-pair.result c.args.values.now c.loop-number.values (omega (arith, c.loop-number-test.true, c.len-number-end.ensures)) (c.pair-pair.ensures c.pair-pair.result) (sym c.has_attr.ensures ∙ c.if-not-has_attr.true) c.loop-number.invariant

pub loop-number-preserved : goal.loop-number-preserved
loop-number-preserved c =
    on-yes c.args.attr.now c.args.line.now c.loop-number.number c.pair-pair.result c.args.values.now c.loop-number.values c.add.new.self c.value.result.now (omega (arith, c.loop-number-test.true, c.len-number-end.ensures)) (c.pair-pair.ensures c.pair-pair.result) (sym c.has_attr.ensures ∙ c.if-not-has_attr.false)
    c.value.ensures c.in_ok-add.ensures.ok c.loop-number.invariant
