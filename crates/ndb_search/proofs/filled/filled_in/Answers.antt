use Rattle.std.proofs.Common.{ℕ, List, ◌++◌, [], sym, ap, ◌∙◌, arith, ◌<◌, length}
use Rattle.std.specs.Prelude.{filter}
use Rattle.net_base.specs.Search.{values_on, values_in}
use Rattle.net_base.specs.Networks.{is_filled}
use Rattle.net_base.proofs.Shared.{own-default}
use Rattle.ndb_search.proofs.Behind.{of-all}
use Rattle.ndb_search.proofs.NonEmpty.{in_more}
use Rattle.ndb_search.proofs.filled.filled_in.Goals as goal

pub loop-number-preserved : goal.loop-number-preserved
loop-number-preserved c =
    let attr = c.args.attr.now in
    let tuple = c.args.tuple.now in
    let i = c.loop-number.number in
    let h : c.loop-number.number < length c.args.tuple.now = omega (arith, c.loop-number-test.true, c.len-number-end.ensures) in
    c.in_ok-add_filled_on.ensures
    ∙ ap (λ (vs : List (List ℕ)). vs ++ filter is_filled (values_on attr c.line.result)) c.loop-number.invariant
    ∙ sym (in_more attr tuple i c.line.result h (own-default tuple i c.line.result [] h c.line.ensures))

pub returns : goal.returns
returns c =
    of-all (λ lines. filter is_filled (values_in c.args.attr.now lines)) c.args.tuple.now c.loop-number.number _ (omega (arith, c.loop-number-test.false, c.len-number-end.ensures)) c.loop-number.invariant
