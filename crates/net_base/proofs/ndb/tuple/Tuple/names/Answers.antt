use Rattle.std.proofs.Common.{sym, ap, ◌∙◌, arith, []}
use Rattle.std.specs.List.{list_any}
use Rattle.net_base.specs.Search as spec
use Rattle.net_base.proofs.Among.{any-next, any-here}
use Rattle.net_base.proofs.ndb.tuple.Tuple.names.Goals as goal

pub returns-then-names : goal.returns-then-names
returns-then-names c =
    sym (any-here (list_any (spec.has_attr c.args.attr.now)) c.args.self.now c.loop-number.number ([]) (omega (arith, c.loop-number-test.true, c.len-number-end.ensures))
    (ap (list_any (spec.has_attr c.args.attr.now)) (sym (c.line.ensures)) ∙ (sym c.names.ensures ∙ c.if-names.true)))

pub loop-number-preserved : goal.loop-number-preserved
loop-number-preserved c =
    any-next (list_any (spec.has_attr c.args.attr.now)) c.args.self.now c.loop-number.number ([]) (omega (arith, c.loop-number-test.true, c.len-number-end.ensures)) c.loop-number.invariant
    (ap (list_any (spec.has_attr c.args.attr.now)) (sym (c.line.ensures)) ∙ (sym c.names.ensures ∙ c.if-names.false))
