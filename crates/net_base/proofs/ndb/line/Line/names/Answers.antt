use Rattle.std.proofs.Common.{sym, ap, ◌∙◌, arith}
use Rattle.net_base.specs.Search as spec
use Rattle.net_base.proofs.Among.{any-next, any-here}
use Rattle.net_base.proofs.ndb.line.Line.names.Goals as goal

pub returns-then-has_attr : goal.returns-then-has_attr
returns-then-has_attr c =
    sym (any-here (spec.has_attr c.args.attr.now) c.args.self.now c.loop-number.number (c.pair.result) (omega (arith, c.loop-number-test.true, c.len-number-end.ensures))
    (ap (spec.has_attr c.args.attr.now) (sym (c.pair.ensures c.pair.result)) ∙ (sym c.has_attr.ensures ∙ c.if-has_attr.true)))

pub loop-number-preserved : goal.loop-number-preserved
loop-number-preserved c =
    any-next (spec.has_attr c.args.attr.now) c.args.self.now c.loop-number.number (c.pair.result) (omega (arith, c.loop-number-test.true, c.len-number-end.ensures)) c.loop-number.invariant
    (ap (spec.has_attr c.args.attr.now) (sym (c.pair.ensures c.pair.result)) ∙ (sym c.has_attr.ensures ∙ c.if-has_attr.false))
