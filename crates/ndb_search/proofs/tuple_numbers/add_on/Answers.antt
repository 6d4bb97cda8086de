use Rattle.std.proofs.Common.{◌++◌, ◌+◌, ◌∷◌, [], take, sym, ◌∙◌, arith}
use Rattle.ndb_search.specs.Numbers.{numbers_on}
use Rattle.ndb_search.proofs.Behind.{join-more, join-less, of-all}
use Rattle.ndb_search.proofs.Pieces.{on_more, on_less}
use Rattle.ndb_search.proofs.tuple_numbers.add_on.Goals as goal

pub loop-place-preserved : goal.loop-place-preserved
loop-place-preserved c =
    let kind = c.args.kind in
    let line = c.args.line.now in
    let i = c.loop-place.place in
    join-more c.args.numbers.now.items (numbers_on kind (take i line)) (numbers_on kind (take (i + 1) line)) (c.in-Some.number ∷ []) c.loop-place.numbers.items c.push.new.self.items c.loop-place.invariant c.in_ok-push.ensures.items
    (on_more kind line i c.pair.result c.in-Some.number (omega (arith, c.loop-place-test.true, c.len-place-end.ensures)) (c.pair.ensures c.pair.result) (sym c.number_of.ensures ∙ c.in-Some.is))

pub loop-place-preserved-in_default : goal.loop-place-preserved-in_default
loop-place-preserved-in_default c =
    let kind = c.args.kind in
    let line = c.args.line.now in
    let i = c.loop-place.place in
    join-less c.args.numbers.now.items (numbers_on kind (take i line)) (numbers_on kind (take (i + 1) line)) c.loop-place.numbers.items c.loop-place.invariant
    (on_less kind line i c.pair.result (omega (arith, c.loop-place-test.true, c.len-place-end.ensures)) (c.pair.ensures c.pair.result) (sym c.number_of.ensures ∙ c.in_default.is))

pub returns : goal.returns
returns c =
    of-all (λ pairs. c.args.numbers.now.items ++ numbers_on c.args.kind pairs) c.args.line.now c.loop-place.place _ (omega (arith, c.loop-place-test.false, c.len-place-end.ensures)) c.loop-place.invariant
