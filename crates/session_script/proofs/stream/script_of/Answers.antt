use Rattle.std.proofs.Common.{arith}
use Rattle.std.proofs.lemmas.Bool.Decides.{nat_tests}
use Rattle.session_script.specs.Seen.{seen_table}
use Rattle.session_script.proofs.Messages.{ends, errs, goes_on, is_bad, one_script, starts}
use Rattle.session_script.proofs.stream.script_of.Goals as goal

pub loop-rest-init : goal.loop-rest-init
loop-rest-init c = starts c.args.bytes.now (seen_table c.new-table.result) c.new-steps.result c.new-table.ensures c.new-steps.ensures

pub loop-rest-preserved : goal.loop-rest-preserved
loop-rest-preserved c =
    let l = c.loop-rest in
    goes_on c.args.bytes.now (seen_table l.table) (seen_table c.add_step.new.table) l.steps c.add_step.new.steps l.rest.now c.in-Ok.behind.now l.invariant c.in-Ok.ensures.found

pub returns-in-Err-clause-bad : goal.returns-in-Err-clause-bad
returns-in-Err-clause-bad c = λ e.
    let l = c.loop-rest in
    is_bad c.args.bytes.now (seen_table l.table) l.steps l.rest.now l.invariant (grind (arith, nat_tests)) (c.in-Err.ensures.bad (errs c.in-Err.error _ e))

pub returns-clause-found : goal.returns-clause-found
returns-clause-found c =
    let l = c.loop-rest in
    ends c.args.bytes.now (seen_table l.table) l.steps l.rest.now (grind (arith, nat_tests)) l.invariant

pub returns-clause-only : goal.returns-clause-only
returns-clause-only c = λ ms are.
    let l = c.loop-rest in
    one_script c.args.bytes.now l.steps ms (ends c.args.bytes.now (seen_table l.table) l.steps l.rest.now (grind (arith, nat_tests)) l.invariant) are

pub returns-clause-sayable : goal.returns-clause-sayable
returns-clause-sayable c =
    let l = c.loop-rest in
    c.scripts_can_be_said.ensures c.args.bytes.now l.steps c.are_bytes.ensures (ends c.args.bytes.now (seen_table l.table) l.steps l.rest.now (grind (arith, nat_tests)) l.invariant)
