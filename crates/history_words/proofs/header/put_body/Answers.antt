use Rattle.std.specs.Prelude.{codes}
use Rattle.history_words.specs.HistoryWords.{name_words, sequence_words}
use Rattle.history_words.proofs.Spacing.{ok_next}
use Rattle.history_words.proofs.header.put_body.Goals as goal

pub returns-in_ok-put_sequence-in-Il : goal.returns-in_ok-put_sequence-in-Il
returns-in_ok-put_sequence-in-Il c =
    rw c.in-Il.is
    (ok_next c.put_named.result c.args.out.now c.put_sequence.new.out c.put_named.new.out (sequence_words c.in-Il.spec c.in-Il.id c.in-Il.ack)
    (name_words (codes "length") c.in-Il.length) c.in_ok-put_sequence-in-Il.ensures c.put_named.ensures)
