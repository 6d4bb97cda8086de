use Rattle.ctl_words.proofs.Splits.{three_parts}
use Rattle.ctl_words.proofs.numbers.place.Goals as goal

pub returns-in-Some : goal.returns-in-Some
returns-in-Some c =
    three_parts c.args.text.now c.in_ok-rest.field-0.now c.in-Some.field-0.now _ _
    (rw c.in_ok-rest.was at c.split_first.ensures)
    (rw c.in-Some.is at c.split_first-2.ensures)
