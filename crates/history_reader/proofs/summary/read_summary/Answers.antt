use Rattle.history_reader.proofs.Readings.{fifth_bad, no_text}
use Rattle.history_reader.proofs.summary.read_summary.Goals as goal

pub returns-else-is_empty-clause-bad : goal.returns-else-is_empty-clause-bad
returns-else-is_empty-clause-bad c =
    fifth_bad c.bad_behind-else-is_empty.result c.args.before c.args.text.now c.in-Some.rest.now c.in-Some-behind_both.rest.now c.in-Some-behind_both-2.rest.now c.in-Some-behind_end.rest.now
    c.in-Some.ensures c.in-Some-behind_both.ensures c.in-Some-behind_both-2.ensures c.in-Some-behind_end.ensures
    (no_text c.in-Some-behind_end.rest.now c.is_empty.result c.is_empty.ensures c.if-is_empty.false) c.bad_behind-else-is_empty.ensures.bad
