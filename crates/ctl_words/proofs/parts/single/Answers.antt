use Rattle.ctl_words.proofs.Splits.{many_parts}
use Rattle.ctl_words.proofs.parts.single.Goals as goal

pub returns-in-Some : goal.returns-in-Some
returns-in-Some c = many_parts c.args.separator c.args.text.now _ c.in-Some.field-0.now (rw c.in-Some.is at c.split_first.ensures)
