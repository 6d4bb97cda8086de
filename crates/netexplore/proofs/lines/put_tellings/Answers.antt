use Rattle.plain_runner.proofs.Shared.{got}
use Rattle.netexplore.proofs.Printing.{told_done, told_next}
use Rattle.netexplore.proofs.lines.put_tellings.Goals as goal

pub loop-number-preserved : goal.loop-number-preserved
loop-number-preserved c =
    let l = c.loop-number in
    told_next c.args.lines.now l.number c.args.told.now c.index-told-number.result c.lines_at-rest.result.now l.out c.put_telling.new.out _
    (got c.args.told.now l.number c.index-told-number.result c.loop-number-test.true c.index-told-number.is) c.lines_at-rest.ensures
    c.in_ok-put_telling.ensures l.invariant

pub returns : goal.returns
returns c = told_done c.args.lines.now c.loop-number.number c.args.told.now c.loop-number.out _ c.loop-number-test.false c.loop-number.invariant
