use Rattle.netexplore.proofs.Printing.{outcomes_are}
use Rattle.netexplore.proofs.lines.outcomes_of.Goals as goal

pub returns : goal.returns
returns c = λ w losses span sound exact.
    outcomes_are w losses span c.args.found.now c.as_slice-told.result.now c.in_ok-lines.lines c.put_last.new.out c.new-text.result c.put_tellings.new.out
    c.status_of-status.result c.new-answer.result sound exact c.as_slice-told.ensures.value c.new-text.ensures c.in_ok-put_tellings.ensures
    c.in_ok-put_last.ensures c.status_of-status.ensures c.new-answer.ensures
