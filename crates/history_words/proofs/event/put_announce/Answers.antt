use Rattle.std.specs.Prelude.{ℕ, List, [], ◌∷◌, ◌++◌, codes}
use Rattle.net_base.specs.Transcript.{ip_or_star, number_or_star}
use Rattle.history_words.specs.HistoryWords.{slot}
use Rattle.history_words.proofs.Spacing.{next, ok_next}
use Rattle.history_words.proofs.event.put_announce.Goals as goal

pub returns : goal.returns
returns c =
    let one : List (List ℕ) = codes "announce" ∷ slot c.args.slot c.args.generation in
    let two : List (List ℕ) = one ++ codes "at" ∷ [] in
    let three : List (List ℕ) = two ++ ip_or_star c.args.ip ∷ [] in
    let four : List (List ℕ) = three ++ codes "port" ∷ [] in
    let by_two = next c.args.out.now c.put_with_slot.new.out c.put_word.new.out one (codes "at" ∷ []) c.in_ok-put_with_slot.ensures c.in_ok-put_word.ensures in
    let by_three = next c.args.out.now c.put_word.new.out c.put_ip_or_star.new.out two (ip_or_star c.args.ip ∷ []) by_two c.in_ok-put_ip_or_star.ensures in
    let by_four = next c.args.out.now c.put_ip_or_star.new.out c.put_word-2.new.out three (codes "port" ∷ []) by_three c.in_ok-put_word-2.ensures in
    ok_next c.put_port_or_star.result c.args.out.now c.put_word-2.new.out c.put_port_or_star.new.out four (number_or_star c.args.port ∷ []) by_four c.put_port_or_star.ensures
