use Rattle.std.proofs.Common.{arith, sym, ◌∙◌}
use Rattle.std.proofs.lemmas.Bool.Decides.{nat_tests}
use Rattle.netcheck.proofs.Halves.{parts_found, passed_all, passed_more, passed_none}
use Rattle.netcheck.proofs.parts.split.Goals as goal

pub loop-rest-init : goal.loop-rest-init
loop-rest-init c = record { passed = passed_none c.args.input.now; room = omega arith }

pub loop-rest-preserved : goal.loop-rest-preserved
loop-rest-preserved c =
    let less = c.cut_line.ensures.less in
    let room = c.loop-rest.invariant.room in
    record {
      passed = passed_more c.args.input.now c.loop-rest.rest.now c.cut_line.result.0.now c.cut_line.result.1.now c.loop-rest.lines c.loop-rest.invariant.passed
          c.cut_line.ensures.cut less
          (sym c.is_mark.ensures ∙ c.if-is_mark.false);
      room = omega (arith, room, less);
    }

pub returns-then-is_mark-clause-ok : goal.returns-then-is_mark-clause-ok
returns-then-is_mark-clause-ok c =
    parts_found c.args.input.now c.loop-rest.rest.now c.cut_line.result.0.now c.cut_line.result.1.now c.loop-rest.lines c.loop-rest.invariant.passed c.cut_line.ensures.cut
    c.cut_line.ensures.less (sym c.is_mark.ensures ∙ c.if-is_mark.true)

pub returns-clause-err : goal.returns-clause-err
returns-clause-err c = (passed_all c.args.input.now c.loop-rest.rest.now c.loop-rest.lines c.loop-rest.invariant.passed (grind (arith, nat_tests))).0

pub returns-clause-count : goal.returns-clause-count
returns-clause-count c = (passed_all c.args.input.now c.loop-rest.rest.now c.loop-rest.lines c.loop-rest.invariant.passed (grind (arith, nat_tests))).1
