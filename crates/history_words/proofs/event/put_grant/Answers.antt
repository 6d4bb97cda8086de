use Rattle.std.specs.Prelude.{ℕ, List, [], ◌∷◌, ◌++◌, codes}
use Rattle.net_base.specs.Transcript.{addr_word}
use Rattle.history_words.specs.HistoryWords.{port_word, slot}
use Rattle.history_words.proofs.Spacing.{next, ok_next}
use Rattle.history_words.proofs.event.put_grant.Goals as goal

pub returns : goal.returns
returns c =
    let one : List (List ℕ) = codes "grant" ∷ slot c.args.slot c.args.generation in
    let two : List (List ℕ) = one ++ codes "to" ∷ [] in
    let three : List (List ℕ) = two ++ addr_word c.args.remote ∷ [] in
    let four : List (List ℕ) = three ++ codes "from port" ∷ [] in
    let by_two = next c.args.out.now c.put_with_slot.new.out c.put_word.new.out one (codes "to" ∷ []) c.in_ok-put_with_slot.ensures c.in_ok-put_word.ensures in
    let by_three = next c.args.out.now c.put_word.new.out c.put_addr.new.out two (addr_word c.args.remote ∷ []) by_two c.in_ok-put_addr.ensures in
    let by_four = next c.args.out.now c.put_addr.new.out c.put_word-2.new.out three (codes "from port" ∷ []) by_three c.in_ok-put_word-2.ensures in
    ok_next c.put_port.result c.args.out.now c.put_word-2.new.out c.put_port.new.out four (port_word c.args.lport ∷ []) by_four c.put_port.ensures
