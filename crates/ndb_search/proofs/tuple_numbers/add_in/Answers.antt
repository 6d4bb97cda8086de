use Rattle.std.proofs.Common.{◌++◌, ◌+◌, [], take, arith, ◌<◌, length}
use Rattle.net_base.proofs.Shared.{own-default}
use Rattle.ndb_search.specs.Numbers.{numbers_on, numbers_in}
use Rattle.ndb_search.proofs.Behind.{join-more, of-all}
use Rattle.ndb_search.proofs.Pieces.{in_more}
use Rattle.ndb_search.proofs.tuple_numbers.add_in.Goals as goal

pub loop-place-preserved : goal.loop-place-preserved
loop-place-preserved c =
    let kind = c.args.kind in
    let tuple = c.args.tuple.now in
    let i = c.loop-place.place in
    let h : c.loop-place.place < length c.args.tuple.now = omega (arith, c.loop-place-test.true, c.len-place-end.ensures) in
    join-more c.args.numbers.now.items (numbers_in kind (take i tuple)) (numbers_in kind (take (i + 1) tuple)) (numbers_on kind c.line.result) c.loop-place.numbers.items c.add_on.new.numbers.items c.loop-place.invariant c.in_ok-add_on.ensures
    (in_more kind tuple i c.line.result h (own-default tuple i c.line.result [] h c.line.ensures))

pub returns : goal.returns
returns c =
    of-all (λ lines. c.args.numbers.now.items ++ numbers_in c.args.kind lines) c.args.tuple.now c.loop-place.place _ (omega (arith, c.loop-place-test.false, c.len-place-end.ensures)) c.loop-place.invariant
