use Rattle.std.specs.Prelude.{codes, ◌∷◌}
use Rattle.history_words.specs.HistoryWords.{name_words, slot}
use Rattle.history_words.proofs.Spacing.{ok_next}
use Rattle.history_words.proofs.event.put_bind.Goals as goal

pub returns : goal.returns
returns c =
    ok_next c.put_named.result c.args.out.now c.put_with_slot.new.out c.put_named.new.out
    (codes "bind" ∷ slot c.args.slot c.args.generation) (name_words (codes "port") c.args.port) c.in_ok-put_with_slot.ensures c.put_named.ensures
