-- What is kept of the messages that were sent.
use Rattle.std.proofs.Common.{◌≡◌, ℕ, zero, suc, ◌+◌, List, [], ◌∷◌, drop, Some, ◌≤◌, true, length, nat_le, arith, refl, sym, ◌∙◌, ap}
use Rattle.std.proofs.lemmas.List.{get_or-drop}
use Rattle.std.proofs.lemmas.Bool.Decides.{nat_tests}
use Rattle.net_base.specs.declared.il.IlMsg.{IlMsg}
use Rattle.net_base.specs.Number.{number}
use Rattle.net_base.specs.IlEnd.{End, hears, hears_ack, acks, waits_anew}
use Rattle.std.specs.List.{slice_get, slice_index_or}

got_at : (xs : List (List ℕ)) (i : ℕ) (text : List ℕ) → slice_get xs i ≡ Some text → text ≡ slice_index_or xs i []
got_at [] i text is = absurd (let h = is in cc)
got_at (x ∷ xs) zero text is = let same : x ≡ text = cc is in sym same
got_at (x ∷ xs) (suc i) text is = got_at xs i text is

-- a text that is kept is one that was sent
pub text_at : (sent : List (List ℕ)) (acked place n : ℕ) (text : List ℕ) → slice_get (drop acked sent) place ≡ Some text → n ≡ acked + place → text ≡ slice_index_or sent n []
text_at sent acked place n text is at =
    got_at (drop acked sent) place text is ∙ get_or-drop acked sent place [] ∙ ap (λ k. slice_index_or sent k []) (sym at)

-- an ack of messages that were sent is taken
pub takes_ack : (now k : ℕ) (m : IlMsg) (e : End) → number e.start m.ack e.acked ≡ Some k → k ≤ length e.sent → waits_anew now (acks now k (hears now e)) ≡ hears_ack now m e
takes_ack now k m e some sent =
    let was_sent : nat_le k (length e.sent) ≡ true = grind (arith, nat_tests, sent) in
    rw (some, was_sent) refl
