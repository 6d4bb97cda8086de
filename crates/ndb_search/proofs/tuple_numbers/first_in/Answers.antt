use Rattle.std.proofs.Common.{[], sym, ap, ◌∙◌, arith, ◌<◌, length}
use Rattle.net_base.specs.Networks.{first_of}
use Rattle.net_base.proofs.Shared.{own-default}
use Rattle.ndb_search.specs.Numbers.{numbers_in}
use Rattle.ndb_search.proofs.Behind.{of-all}
use Rattle.ndb_search.proofs.Pieces.{in_none, in_first}
use Rattle.ndb_search.proofs.tuple_numbers.first_in.Goals as goal

pub returns-in-Some : goal.returns-in-Some
returns-in-Some c =
    let h : c.loop-place.place < length c.args.tuple.now = omega (arith, c.loop-place-test.true, c.len-place-end.ensures) in
    sym (in_first c.args.kind c.args.tuple.now c.loop-place.place c.line.result c.in-Some.number h (own-default c.args.tuple.now c.loop-place.place c.line.result [] h c.line.ensures) c.loop-place.invariant
    (sym c.first_on.ensures ∙ c.in-Some.is))

pub loop-place-preserved : goal.loop-place-preserved
loop-place-preserved c =
    let h : c.loop-place.place < length c.args.tuple.now = omega (arith, c.loop-place-test.true, c.len-place-end.ensures) in
    in_none c.args.kind c.args.tuple.now c.loop-place.place c.line.result h (own-default c.args.tuple.now c.loop-place.place c.line.result [] h c.line.ensures) c.loop-place.invariant
    (sym c.first_on.ensures ∙ c.in_default.is)

pub returns : goal.returns
returns c =
    of-all (λ lines. first_of (numbers_in c.args.kind lines)) c.args.tuple.now c.loop-place.place _ (omega (arith, c.loop-place-test.false, c.len-place-end.ensures)) (sym (ap first_of c.loop-place.invariant))
