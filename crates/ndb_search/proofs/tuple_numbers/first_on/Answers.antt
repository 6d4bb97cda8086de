use Rattle.std.proofs.Common.{sym, ap, ◌∙◌, arith}
use Rattle.net_base.specs.Networks.{first_of}
use Rattle.ndb_search.specs.Numbers.{numbers_on}
use Rattle.ndb_search.proofs.Behind.{of-all}
use Rattle.ndb_search.proofs.Pieces.{on_less, on_first}
use Rattle.ndb_search.proofs.tuple_numbers.first_on.Goals as goal

pub returns-in-Some : goal.returns-in-Some
returns-in-Some c =
    sym (on_first c.args.kind c.args.line.now c.loop-place.place c.pair.result c.in-Some.number (omega (arith, c.loop-place-test.true, c.len-place-end.ensures)) (c.pair.ensures c.pair.result) c.loop-place.invariant
    (sym c.number_of.ensures ∙ c.in-Some.is))

pub loop-place-preserved : goal.loop-place-preserved
loop-place-preserved c =
    on_less c.args.kind c.args.line.now c.loop-place.place c.pair.result (omega (arith, c.loop-place-test.true, c.len-place-end.ensures)) (c.pair.ensures c.pair.result) (sym c.number_of.ensures ∙ c.in_default.is)
    ∙ c.loop-place.invariant

pub returns : goal.returns
returns c =
    of-all (λ pairs. first_of (numbers_on c.args.kind pairs)) c.args.line.now c.loop-place.place _ (omega (arith, c.loop-place-test.false, c.len-place-end.ensures)) (sym (ap first_of c.loop-place.invariant))
