-- The cost of a turn, the preemptions that are left after a history, and the length of histories.
use Rattle.std.proofs.Common.{◌≡◌, ℕ, ◌-◌, ◌<◌, ◌≤◌, ◌==◌, ◌&&◌, Bool, true, false, not, cond, List, [], ◌∷◌, ◌++◌, length, Option, Some, refl, ap, ◌∙◌, arith}
use Rattle.std.proofs.lemmas.Bool.{eq-eqb, ne_eqb}
use Rattle.std.proofs.lemmas.List.{map_push}
use Rattle.net_base.specs.declared.history.Entry.{Entry}
use Rattle.net_base.specs.declared.world.World.{World}
use Rattle.net_base.specs.Legal.{IsInTime, IsLegal, IsTimed, MayFollow}
use Rattle.net_base.specs.Net.{after}
use Rattle.net_base.specs.World.{IsWorld}
use Rattle.history_laws.proofs.Shared.{legal_short}
use Rattle.turn_orders.specs.Orders.{too_many}
use Rattle.turn_orders.specs.Paths.{IsFirst, IsLowest, left}
use Rattle.turn_orders.specs.Preemptions.{cost, cost_in, last_caller, leaves_early, preemptions}
use Rattle.turn_orders.specs.Turns.{callers_of, goes, with_turns}
use Rattle.turn_orders.proofs.Growing.{by_turns, is_its_callers, preempts_push}
use Rattle.turn_orders.proofs.Searching.{left-append}

abbrev price : Bool → ℕ
price b = cond b 1 0

one_at_most : (b : Bool) → price b ≤ 1
one_at_most true = omega arith
one_at_most false = omega arith

pub cost_within : (w : World) (h : List Entry) (c : ℕ) → cost w h c ≤ 1
cost_within w h c = one_at_most (leaves_early w (after w h) (last_caller h) c)

pub cost_first : (w : World) (c : ℕ) → cost w [] c ≡ 0
cost_first w c = refl

pub cost_same : (w : World) (h : List Entry) (c : ℕ) → last_caller h ≡ Some c → cost w h c ≡ 0
cost_same w h c is = ap (λ (o : Option ℕ). cost_in w (after w h) o c) is ∙ rw (eq-eqb c c refl) refl

pub cost_waits : (w : World) (h : List Entry) (last c : ℕ) → last_caller h ≡ Some last → goes w (after w h) last ≡ false → cost w h c ≡ 0
cost_waits w h last c is waits = ap (λ (o : Option ℕ). cost_in w (after w h) o c) is ∙ ap (λ (b : Bool). price (not (last == c) && b)) waits ∙ nothing (not (last == c))
  where
    nothing : (b : Bool) → price (b && false) ≡ 0
    nothing true = refl
    nothing false = refl

pub cost_early : (w : World) (h : List Entry) (last c : ℕ) → last_caller h ≡ Some last → (last ≡ c → ⊥) → goes w (after w h) last ≡ true → cost w h c ≡ 1
cost_early w h last c is apart going =
    ap (λ (o : Option ℕ). cost_in w (after w h) o c) is
    ∙ ap (λ (b : Bool). price (not b && goes w (after w h) last)) (ne_eqb last c apart)
    ∙ ap price going

pub cost_free : (w : World) (h : List Entry) (p c : ℕ) → 1 ≤ p → cost w h c ≤ p
cost_free w h p c le = let most = cost_within w h c in omega (arith, most, le)

pub lowest_first : (w : World) (h : List Entry) (p k c : ℕ) → IsLowest w h p k c → IsFirst w h p k c
lowest_first w h p k c low = record {
  there = low.there;
  from = low.from;
  paid = low.paid;
  lower = λ d there from lt. let le = low.lowest d there from in absurd (omega (arith, le, lt));
}

-- What is left.

pub left_is : (w : World) (p : ℕ) (h : List Entry) → IsLegal w h → IsTimed w h → preemptions w h ≤ p → left w p (callers_of h) ≡ p - preemptions w h
left_is w p h legal timed = by_turns w (λ (k : List Entry). preemptions w k ≤ p → left w p (callers_of k) ≡ p - preemptions w k) (λ le. omega arith) push h legal timed
  where
    push : (k : List Entry) (x : Entry) → IsLegal w k → IsTimed w k → MayFollow w k x → IsInTime (after w k) w x.event
        → (preemptions w k ≤ p → left w p (callers_of k) ≡ p - preemptions w k)
        → preemptions w (k ++ x ∷ []) ≤ p → left w p (callers_of (k ++ x ∷ [])) ≡ p - preemptions w (k ++ x ∷ [])
    push k x legal timed may in_time was le =
        let grown = preempts_push w k x in
        let before = was (omega (arith, grown, le)) in
        let one = ap (left w p) (map_push (λ (y : Entry). y.caller) k x) in
        let two = left-append w [] p (callers_of k) x.caller in
        let three : cost w (with_turns w [] (callers_of k)) x.caller ≡ cost w k x.caller =
        ap (λ (l : List Entry). cost w l x.caller) (is_its_callers w k legal timed) in
        omega (arith, grown, le, before, one, two, three)

pub is_short : (w : World) (h : List Entry) → IsWorld w → IsLegal w h → length h < too_many
is_short w h world legal = legal_short w world h legal
