use Rattle.std.proofs.Common.{[], sym, ◌∙◌, arith, ◌<◌, length}
use Rattle.std.specs.Prelude.{codes}
use Rattle.net_base.specs.Search.{tuples_with}
use Rattle.net_base.proofs.Shared.{own-default}
use Rattle.ndb_search.specs.Closest.{first_filled}
use Rattle.ndb_search.proofs.Behind.{of-all}
use Rattle.ndb_search.proofs.Nearest.{of_here, of_empty, of_other}
use Rattle.ndb_search.proofs.near.closest_of.Goals as goal

pub loop-place-preserved-then-not-has : goal.loop-place-preserved-then-not-has
loop-place-preserved-then-not-has c =
    let h : c.loop-place.place < length c.args.db.now = omega (arith, c.loop-place-test.true, c.len-place-end.ensures) in
    of_other c.args.attr.now c.args.me.now c.args.db.now c.loop-place.place c.tuple-tuple.result h (own-default c.args.db.now c.loop-place.place c.tuple-tuple.result [] h c.tuple-tuple.ensures) c.loop-place.invariant
    (sym c.has.ensures ∙ c.if-not-has.true)

pub returns-then-len-ne0 : goal.returns-then-len-ne0
returns-then-len-ne0 c =
    of_here c.args.attr.now c.args.me.now c.args.db.now c.loop-place.place c.tuple-tuple.result c.in_ok-values.values (omega (arith, c.loop-place-test.true, c.len-place-end.ensures)) c.tuple-tuple.ensures c.loop-place.invariant
    (sym c.has.ensures ∙ c.if-not-has.false) c.in_ok-values.ensures (λ e. c.if-len-ne0.true (c.len.ensures ∙ e))

pub loop-place-preserved : goal.loop-place-preserved
loop-place-preserved c =
    of_empty c.args.attr.now c.args.me.now c.args.db.now c.loop-place.place c.tuple-tuple.result c.in_ok-values.values (omega (arith, c.loop-place-test.true, c.len-place-end.ensures)) c.tuple-tuple.ensures c.loop-place.invariant
    (sym c.has.ensures ∙ c.if-not-has.false) c.in_ok-values.ensures (sym c.len.ensures ∙ c.if-len-ne0.false)

pub returns : goal.returns
returns c =
    of-all (λ db. first_filled c.args.attr.now (tuples_with (codes "sys") c.args.me.now db)) c.args.db.now c.loop-place.place _ (omega (arith, c.loop-place-test.false, c.len-place-end.ensures)) (sym c.loop-place.invariant)
