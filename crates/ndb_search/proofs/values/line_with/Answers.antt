use Rattle.std.proofs.Common.{[], sym, ◌∙◌, arith}
use Rattle.net_base.specs.Search as spec
use Rattle.ndb_search.proofs.Behind.{first-here, first-on}
use Rattle.ndb_search.proofs.values.line_with.Goals as goal

pub returns-then-has : goal.returns-then-has
returns-then-has c =
    first-here (spec.line_has c.args.attr.now c.args.value.now) c.args.tuple.now c.loop-number.number c.line-line.result [] (omega (arith, c.loop-number-test.true, c.len-number-end.ensures)) c.loop-number.invariant c.line-line.ensures (sym c.has.ensures ∙ c.if-has.true)

pub loop-number-preserved : goal.loop-number-preserved
loop-number-preserved c =
    first-on (spec.line_has c.args.attr.now c.args.value.now) c.args.tuple.now c.loop-number.number c.line-line.result [] (omega (arith, c.loop-number-test.true, c.len-number-end.ensures)) c.loop-number.invariant c.line-line.ensures (sym c.has.ensures ∙ c.if-has.false)
