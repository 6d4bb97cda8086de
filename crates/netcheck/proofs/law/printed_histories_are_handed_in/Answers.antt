use Rattle.netcheck.proofs.Printed.{printed_hands_in}
use Rattle.netcheck.proofs.law.printed_histories_are_handed_in.Goals as goal

pub returns : goal.returns
returns c =
    printed_hands_in c.worlds_are_spelled.ensures.complete c.summaries_are_four_lines.ensures c.texts_spell_one_history.ensures.one
    c.texts_spell_one_history.ensures.good
