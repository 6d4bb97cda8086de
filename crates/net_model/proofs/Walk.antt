-- A history is legal where each entry follows those before it, as one goes along.
use Rattle.std.proofs.Common.{◌≡◌, ℕ, zero, suc, List, [], ◌∷◌, ◌++◌, take, Some, slice_get, refl, sym, subst, ap, ◌∙◌, append_assoc, append-nil}
use Rattle.std.proofs.lemmas.Option.{none-some, same_Some}
use Rattle.net_base.specs.declared.history.Entry.{Entry}
use Rattle.net_base.specs.declared.world.World.{World}
use Rattle.net_base.specs.Net.{Net, next_net, net_of, after, opening_net}
use Rattle.history_laws.proofs.Shared.{legal_push, after_push}
use Rattle.net_base.specs.Legal.{Follows, IsLegal, IsInTime, IsTimed}

-- each of these entries follows in turn
abbrev pub Follow : World → List Entry → Net → List Entry → Type 0
Follow w past net [] = Unit {0}
Follow w past net (x ∷ xs) = Follows w past net x × Follow w (past ++ x ∷ []) (next_net w net x) xs

-- each of these moves comes in time
abbrev pub InTime : World → Net → List Entry → Type 0
InTime w net [] = Unit {0}
InTime w net (x ∷ xs) = IsInTime net w x.event × InTime w (next_net w net x) xs

pub legal_along : (w : World) (past : List Entry) (net : Net) (rest : List Entry) → net ≡ after w past → IsLegal w past → Follow w past net rest → IsLegal w (past ++ rest)
legal_along w past net [] is legal follow = subst (IsLegal w) (sym (append-nil past)) legal
legal_along w past net (x ∷ xs) is legal follow =
    let more = legal_push w past x legal (subst (λ (n : Net). Follows w past n x) is follow.0) in
    let net_more : next_net w net x ≡ after w (past ++ x ∷ []) = ap (λ (n : Net). next_net w n x) is ∙ sym (after_push w past x) in
    subst (IsLegal w) (append_assoc past (x ∷ []) xs) (legal_along w (past ++ x ∷ []) (next_net w net x) xs net_more more follow.1)

pub is_legal : (w : World) (h : List Entry) → Follow w [] (opening_net w) h → IsLegal w h
is_legal w h follow = legal_along w [] (opening_net w) h refl (λ k x is. absurd (none-some x is)) follow

pub timed_along : (w : World) (net : Net) (h : List Entry) → InTime w net h → (k : ℕ) (x : Entry) → slice_get h k ≡ Some x → IsInTime (net_of w net (take k h)) w x.event
timed_along w net [] in_time k x is = absurd (none-some x is)
timed_along w net (y ∷ ys) in_time zero x is = subst (λ (z : Entry). IsInTime net w z.event) (same_Some y x is) in_time.0
timed_along w net (y ∷ ys) in_time (suc k) x is = timed_along w (next_net w net y) ys in_time.1 k x is

pub is_timed : (w : World) (h : List Entry) → InTime w (opening_net w) h → IsTimed w h
is_timed w h in_time = timed_along w (opening_net w) h in_time
