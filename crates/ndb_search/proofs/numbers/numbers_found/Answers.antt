use Rattle.std.proofs.Common.{ℕ, List, [], ◌++◌, sym, ap, ◌∙◌, arith, ◌<◌, length}
use Rattle.net_base.proofs.Shared.{own-default}
use Rattle.ndb_search.specs.Numbers.{numbers_near, numbers_found}
use Rattle.ndb_search.proofs.Behind.{of-all}
use Rattle.ndb_search.proofs.FoundNumbers.{found_more, found_less}
use Rattle.ndb_search.proofs.numbers.numbers_found.Goals as goal

pub loop-place-preserved : goal.loop-place-preserved
loop-place-preserved c =
    let h : c.loop-place.place < length c.args.db.now = omega (arith, c.loop-place-test.true, c.len-place-end.ensures) in
    c.in_ok-add_beside.ensures
    ∙ ap (λ (ns : List ℕ). ns ++ numbers_near c.args.kind c.in-Some.line c.tuple-tuple.result) c.loop-place.invariant
    ∙ sym (found_more c.args.attr.now c.args.value.now c.args.kind c.args.db.now c.loop-place.place c.tuple-tuple.result c.in-Some.line h (own-default c.args.db.now c.loop-place.place c.tuple-tuple.result [] h c.tuple-tuple.ensures) (sym c.line_with.ensures ∙ c.in-Some.is))

pub loop-place-preserved-in_default : goal.loop-place-preserved-in_default
loop-place-preserved-in_default c =
    let h : c.loop-place.place < length c.args.db.now = omega (arith, c.loop-place-test.true, c.len-place-end.ensures) in
    c.loop-place.invariant
    ∙ sym (found_less c.args.attr.now c.args.value.now c.args.kind c.args.db.now c.loop-place.place c.tuple-tuple.result h (own-default c.args.db.now c.loop-place.place c.tuple-tuple.result [] h c.tuple-tuple.ensures) (sym c.line_with.ensures ∙ c.in_default.is))

pub returns : goal.returns
returns c = of-all (numbers_found c.args.attr.now c.args.value.now c.args.kind) c.args.db.now c.loop-place.place _ (omega (arith, c.loop-place-test.false, c.len-place-end.ensures)) c.loop-place.invariant
