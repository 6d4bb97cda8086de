use Rattle.std.proofs.Common.{sym, ◌∙◌, arith}
use Rattle.std.proofs.lemmas.Bool.Decides.{nat_tests}
use Rattle.world_file.proofs.Scanning.{scan_end, scan_first, scan_found, scan_next}
use Rattle.world_file.proofs.versions.next_version.Goals as goal

pub loop-rest-init : goal.loop-rest-init
loop-rest-init c = scan_first c.args.text.now

pub loop-rest-preserved : goal.loop-rest-preserved
loop-rest-preserved c =
    let l = c.loop-rest in
    scan_next c.args.text.now l.rest.now c.cut_line.result.0.now c.cut_line.result.1.now l.lines l.invariant (grind (arith, nat_tests)) c.cut_line.ensures.cut (sym c.is_at_line.ensures ∙ c.if-is_at_line.false)

pub returns-then-is_at_line-clause-some : goal.returns-then-is_at_line-clause-some
returns-then-is_at_line-clause-some c =
    let l = c.loop-rest in
    scan_found c.args.text.now l.rest.now c.cut_line.result.0.now c.cut_line.result.1.now l.lines l.invariant (grind (arith, nat_tests)) c.cut_line.ensures.cut (sym c.is_at_line.ensures ∙ c.if-is_at_line.true)

pub returns-clause-none : goal.returns-clause-none
returns-clause-none c = let l = c.loop-rest in scan_end c.args.text.now l.rest.now l.lines l.invariant (grind (arith, nat_tests))
