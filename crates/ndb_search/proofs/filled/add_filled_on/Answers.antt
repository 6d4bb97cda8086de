use Rattle.std.proofs.Common.{ℕ, List, length, ◌++◌, ◌+◌, ◌∷◌, [], take, sym, ap, ◌∙◌, arith}
use Rattle.std.specs.Prelude.{filter}
use Rattle.net_base.specs.Search.{values_on}
use Rattle.net_base.specs.Networks.{is_filled}
use Rattle.ndb_search.proofs.Behind.{join-more, join-less, of-all}
use Rattle.ndb_search.proofs.NonEmpty.{on_more, on_less, on_empty}
use Rattle.ndb_search.proofs.filled.add_filled_on.Goals as goal

pub loop-number-preserved-then-not-has_attr : goal.loop-number-preserved-then-not-has_attr
loop-number-preserved-then-not-has_attr c =
    let attr = c.args.attr.now in
    let line = c.args.line.now in
    let i = c.loop-number.number in
    join-less c.args.values.now (filter is_filled (values_on attr (take i line))) (filter is_filled (values_on attr (take (i + 1) line))) c.loop-number.values c.loop-number.invariant
    (on_less attr line i c.pair-pair.result (omega (arith, c.loop-number-test.true, c.len-number-end.ensures)) (c.pair-pair.ensures c.pair-pair.result) (sym c.has_attr.ensures ∙ c.if-not-has_attr.true))

pub loop-number-preserved-then-value-eq0 : goal.loop-number-preserved-then-value-eq0
loop-number-preserved-then-value-eq0 c =
    let attr = c.args.attr.now in
    let line = c.args.line.now in
    let i = c.loop-number.number in
    join-less c.args.values.now (filter is_filled (values_on attr (take i line))) (filter is_filled (values_on attr (take (i + 1) line))) c.loop-number.values c.loop-number.invariant
    (on_empty attr line i c.pair-pair.result (omega (arith, c.loop-number-test.true, c.len-number-end.ensures)) (c.pair-pair.ensures c.pair-pair.result) (sym c.has_attr.ensures ∙ c.if-not-has_attr.false)
    (sym (ap (λ (v : List ℕ). length v) c.value.ensures) ∙ c.if-value-eq0.true))

pub loop-number-preserved : goal.loop-number-preserved
loop-number-preserved c =
    let attr = c.args.attr.now in
    let line = c.args.line.now in
    let i = c.loop-number.number in
    join-more c.args.values.now (filter is_filled (values_on attr (take i line))) (filter is_filled (values_on attr (take (i + 1) line))) (c.pair-pair.result.value ∷ []) c.loop-number.values c.add.new.self c.loop-number.invariant
    (c.in_ok-add.ensures.ok ∙ ap (λ (v : List ℕ). c.loop-number.values ++ v ∷ []) c.value-in-loop-number.ensures)
    (on_more attr line i c.pair-pair.result (omega (arith, c.loop-number-test.true, c.len-number-end.ensures)) (c.pair-pair.ensures c.pair-pair.result) (sym c.has_attr.ensures ∙ c.if-not-has_attr.false)
    (omega (arith, ap (λ (v : List ℕ). length v) c.value.ensures, c.if-value-eq0.false)))

pub returns : goal.returns
returns c =
    of-all (λ pairs. c.args.values.now ++ filter is_filled (values_on c.args.attr.now pairs)) c.args.line.now c.loop-number.number _ (omega (arith, c.loop-number-test.false, c.len-number-end.ensures)) c.loop-number.invariant
