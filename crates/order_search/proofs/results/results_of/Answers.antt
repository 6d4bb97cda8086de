use Rattle.std.proofs.Common.{◌≡◌, List, Some, subst, slice_get, arith}
use Rattle.net_base.specs.declared.world.Script.{Script}
use Rattle.plain_runner.proofs.Shared.{got}
use Rattle.order_search.proofs.Marking.{lines_end}
use Rattle.order_search.proofs.results.results_of.Goals as goal

pub put_results-requires-clause-script : goal.put_results-requires-clause-script
put_results-requires-clause-script c =
    let l = c.loop-number in
    subst (λ (ss : List Script). slice_get ss l.number ≡ Some c.index-scripts-number.result) c.as_slice-scripts.ensures
    (got c.as_slice-scripts.result.now l.number c.index-scripts-number.result c.loop-number-test.true c.index-scripts-number.is)

pub returns : goal.returns
returns c =
    lines_end c.args.world.now c.args.walk.now.history c.as_slice-scripts.result.now c.loop-number.number c.loop-number.out c.as_slice-scripts.ensures
    (omega (arith, c.loop-number-test.false)) c.loop-number.invariant
