-- Histories as lists of callers, and preemptions as a history grows.
use Rattle.std.proofs.Common.{◌≡◌, ℕ, zero, suc, ◌+◌, ◌≤◌, List, [], ◌∷◌, ◌++◌, length, take, Option, Some, None, refl, sym, ap, subst, ◌∙◌, arith}
use Rattle.std.proofs.lemmas.List.{map_push, take_all}
use Rattle.net_base.specs.declared.history.Entry.{Entry}
use Rattle.net_base.specs.declared.world.World.{World}
use Rattle.net_base.specs.Legal.{IsInTime, IsLegal, IsTimed, MayFollow}
use Rattle.net_base.specs.Net.{Net, after, net_of, next_net, opening_net}
use Rattle.history_laws.proofs.Shared.{legal_take, one_more, timed_take}
use Rattle.turn_orders.specs.Preemptions.{cost, last_from, preemptions, preemptions_from}
use Rattle.turn_orders.specs.Turns.{callers_of, with_turn, with_turns}
use Rattle.turn_orders.proofs.Turning.{grows_so}

-- what holds at the beginning, and is kept by each entry that comes next in time, holds of each legal and timed history
pub by_turns : (w : World) (P : List Entry → Type 0) → P []
    → ((h : List Entry) (x : Entry) → IsLegal w h → IsTimed w h → MayFollow w h x → IsInTime (after w h) w x.event → P h → P (h ++ x ∷ []))
    → (h : List Entry) → IsLegal w h → IsTimed w h → P h
by_turns w P none more h legal timed = subst P (take_all (length h) h (omega arith)) (up_to (length h) (omega arith))
  where
    up_to : (k : ℕ) → k ≤ length h → P (take k h)
    up_to zero le = none
    up_to (suc k) le =
        let x = one_more h k (omega arith) in
        subst P (sym x.2)
        (more (take k h) x.0 (legal_take w h k legal) (timed_take w h k timed) (legal k x.0 x.1) (timed k x.0 x.1) (up_to k (omega arith)))

-- Histories as lists of callers.

pub turns-append : (w : World) (h : List Entry) (cs : List ℕ) (c : ℕ) → with_turns w h (cs ++ c ∷ []) ≡ with_turn w (with_turns w h cs) c
turns-append w h [] c = refl
turns-append w h (d ∷ cs) c = turns-append w (with_turn w h d) cs c

pub is_its_callers : (w : World) (h : List Entry) → IsLegal w h → IsTimed w h → with_turns w [] (callers_of h) ≡ h
is_its_callers w h legal timed = by_turns w (λ (k : List Entry). with_turns w [] (callers_of k) ≡ k) refl push h legal timed
  where
    push : (k : List Entry) (x : Entry) → IsLegal w k → IsTimed w k → MayFollow w k x → IsInTime (after w k) w x.event
        → with_turns w [] (callers_of k) ≡ k → with_turns w [] (callers_of (k ++ x ∷ [])) ≡ k ++ x ∷ []
    push k x legal timed may in_time same =
        ap (with_turns w []) (map_push (λ (y : Entry). y.caller) k x)
        ∙ turns-append w [] (callers_of k) x.caller
        ∙ ap (λ (l : List Entry). with_turn w l x.caller) same
        ∙ grows_so w k x may in_time

pub same_callers : (w : World) (h k : List Entry) → IsLegal w h → IsTimed w h → IsLegal w k → IsTimed w k → callers_of h ≡ callers_of k → h ≡ k
same_callers w h k legal timed also_legal also_timed same =
    sym (is_its_callers w h legal timed) ∙ ap (with_turns w []) same ∙ is_its_callers w k also_legal also_timed

-- Preemptions.

pub from-append : (w : World) (net : Net) (last : Option ℕ) (xs ys : List Entry)
    → preemptions_from w net last (xs ++ ys) ≡ preemptions_from w net last xs + preemptions_from w (net_of w net xs) (last_from last xs) ys
from-append w net last [] ys = omega arith
from-append w net last (x ∷ xs) ys = let rest = from-append w (next_net w net x) (Some x.caller) xs ys in omega (arith, rest)

pub preempts_push : (w : World) (h : List Entry) (x : Entry) → preemptions w (h ++ x ∷ []) ≡ preemptions w h + cost w h x.caller
preempts_push w h x = let whole = from-append w (opening_net w) None h (x ∷ []) in omega (arith, whole)

pub preempts_more : (w : World) (h more : List Entry) → preemptions w h ≤ preemptions w (h ++ more)
preempts_more w h more = let whole = from-append w (opening_net w) None h more in omega (arith, whole)

pub last_push : (last : Option ℕ) (h : List Entry) (x : Entry) → last_from last (h ++ x ∷ []) ≡ Some x.caller
last_push last [] x = refl
last_push last (y ∷ h) x = last_push (Some y.caller) h x
