use Rattle.std.specs.Prelude.{codes, ◌∷◌}
use Rattle.history_words.specs.HistoryWords.{beginning, slot}
use Rattle.history_words.proofs.Spacing.{ok_next}
use Rattle.history_words.proofs.reply.put_born.Goals as goal

pub returns : goal.returns
returns c =
    ok_next c.put_beginning.result c.args.out.now c.put_with_slot.new.out c.put_beginning.new.out
    (codes "born at" ∷ slot c.args.slot c.args.generation) (beginning c.args.start c.args.limit) c.in_ok-put_with_slot.ensures c.put_beginning.ensures
