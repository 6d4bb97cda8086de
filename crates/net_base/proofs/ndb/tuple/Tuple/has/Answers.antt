use Rattle.std.proofs.Common.{sym, ap, ◌∙◌, arith, []}
use Rattle.net_base.specs.Search as spec
use Rattle.net_base.proofs.Among.{any-next, any-here}
use Rattle.net_base.proofs.ndb.tuple.Tuple.has.Goals as goal

pub returns-then-has : goal.returns-then-has
returns-then-has c =
    sym (any-here (spec.line_has c.args.attr.now c.args.value.now) c.args.self.now c.loop-number.number ([]) (omega (arith, c.loop-number-test.true, c.len-number-end.ensures))
    (ap (spec.line_has c.args.attr.now c.args.value.now) (sym (c.line.ensures)) ∙ (sym c.has.ensures ∙ c.if-has.true)))

pub loop-number-preserved : goal.loop-number-preserved
loop-number-preserved c =
    any-next (spec.line_has c.args.attr.now c.args.value.now) c.args.self.now c.loop-number.number ([]) (omega (arith, c.loop-number-test.true, c.len-number-end.ensures)) c.loop-number.invariant
    (ap (spec.line_has c.args.attr.now c.args.value.now) (sym (c.line.ensures)) ∙ (sym c.has.ensures ∙ c.if-has.false))
