use Rattle.std.proofs.Common.{sym, ap, ◌∙◌, arith}
use Rattle.net_base.specs.Search as spec
use Rattle.net_base.proofs.Among.{any-next, any-here}
use Rattle.net_base.proofs.ndb.line.Line.has.Goals as goal

pub returns-then-is : goal.returns-then-is
returns-then-is c =
    sym (any-here (spec.is_pair c.args.attr.now c.args.value.now) c.args.self.now c.loop-number.number (c.pair.result) (omega (arith, c.loop-number-test.true, c.len-number-end.ensures))
    (ap (spec.is_pair c.args.attr.now c.args.value.now) (sym (c.pair.ensures c.pair.result)) ∙ (sym c.is.ensures ∙ c.if-is.true)))

pub loop-number-preserved : goal.loop-number-preserved
loop-number-preserved c =
    any-next (spec.is_pair c.args.attr.now c.args.value.now) c.args.self.now c.loop-number.number (c.pair.result) (omega (arith, c.loop-number-test.true, c.len-number-end.ensures)) c.loop-number.invariant
    (ap (spec.is_pair c.args.attr.now c.args.value.now) (sym (c.pair.ensures c.pair.result)) ∙ (sym c.is.ensures ∙ c.if-is.false))
